-- "Finding a message", over any opening.
use Rattle.std.specs.Prelude.{ℕ, suc, ◌+◌, ◌-◌, List, [], ◌∷◌, ◌++◌, Bool, cond, ◌&&◌, length, get_or, take, drop, ltb, leb, eqb, Result, Ok, Err}
use Rattle.octet.specs.Bytes.{bytes_of, between, agree, until_byte, part}
use Rattle.text.specs.Decimal.{digit_run, digits, fixed, check_sum}
use Rattle.frame.specs.declared.Found.{Found}
use Rattle.frame.specs.declared.Found.TheVariants.{More, Garbled, Framed}
use Rattle.frame.specs.declared.Unframed.{Unframed}
use Rattle.frame.specs.declared.Unframed.TheVariants.{Short, Failed}

-- what the judging of the bytes comes to, before the skip is looked for: a message's length, or why there is none
abbrev pub Standing : Type 0
Standing = Result ℕ Unframed

-- "`8=FIX.4.2|`"
abbrev pub opening : List ℕ
opening = bytes_of "8=FIX.4.2|"

-- how many bytes come before the first place from which the rest agrees with o
abbrev pub to_agree : List ℕ → List ℕ → ℕ
to_agree o [] = 0
to_agree o (x ∷ s) = let more = suc (to_agree o s) in cond (agree o (x ∷ s)) 0 more

-- "a skip, the least p of 1 or more such that the bytes from p on agree with the ten opening bytes as far as both go"
unfoldable pub skip_of : List ℕ → List ℕ → ℕ
skip_of o s = 1 + to_agree o (drop 1 s)

-- "`10=`, three digits, `|`"
abbrev pub trailer_of : ℕ → List ℕ
trailer_of c = bytes_of "10=" ++ fixed 3 c ++ bytes_of "|"

abbrev pub trailer_width : ℕ
trailer_width = 7

-- "1 to 3 bytes, `|`"
abbrev pub type_ok : List ℕ → Bool
type_ok t = between 1 3 (until_byte 1 t) && ltb (until_byte 1 t) (length t)

-- "The body begins `35=`, 1 to 3 bytes, `|`, and ends with `|`"
unfoldable pub body_ok : List ℕ → Bool
body_ok b = agree (bytes_of "35=") b && type_ok (drop 3 b) && eqb (get_or b (length b - 1) 0) 1

-- "the rest when the whole message is there": a body of n bytes from `at` on, and the trailer
unfoldable pub judge_whole : ℕ → ℕ → List ℕ → Standing
judge_whole at n s =
    cond (ltb (length s) (at + n + trailer_width)) (Err Short)
    (cond (body_ok (part at n s) && agree (trailer_of (check_sum (take (at + n) s))) (drop (at + n) s)) (Ok (at + n + trailer_width)) (Err Failed))

-- "BodyLength is 5 to 4,072": the length's value n, where the body begins at `at`
unfoldable pub judge_length : ℕ → ℕ → List ℕ → Standing
judge_length at n s = cond (between 5 4072 n) (judge_whole at n s) (Err Failed)

-- "(the length's value once its `|` is there)"
abbrev pub judge_value : ℕ → ℕ → List ℕ → Standing
judge_value at d s = judge_length (at + d + 1) (digits (part at d s)) s

-- "1 to 4 digits, `|`", from `at` on, as far as bytes have come
unfoldable pub judge_digits : ℕ → List ℕ → Standing
judge_digits at s =
    let d = digit_run (drop at s) in
    cond (ltb 4 d) (Err Failed)
    (cond (leb (length s) (at + d)) (Err Short)
    (cond (leb 1 d && eqb (get_or s (at + d) 0) 1) (judge_value at d s) (Err Failed)))

-- s begins with o, as far as bytes have come
abbrev pub begun : List ℕ → List ℕ → Result (Unit {0}) Unframed
begun o s = cond (agree o s) (cond (leb (length o) (length s)) (Ok tt) (Err Short)) (Err Failed)

-- "The opening and length field are judged as far as bytes have come"
unfoldable pub judge_opening : List ℕ → List ℕ → Standing
judge_opening o s = cond (agree (o ++ bytes_of "9=") s) (judge_digits (length o + 2) s) (Err Failed)

-- "Nothing failed and bytes missing: More. Failed: Garbled, with a skip"
abbrev pub answered : Standing → ℕ → Found
answered (Err Short) p = More
answered (Err Failed) p = Garbled p
answered (Ok n) p = Framed n

unfoldable pub found_by : List ℕ → List ℕ → Found
found_by o s = answered (judge_opening o s) (skip_of o s)

abbrev pub found_in : List ℕ → Found
found_in s = found_by opening s

-- where the body of a framed message begins, and the body: all but what stands before it and the trailer
abbrev pub body_at : List ℕ → List ℕ → ℕ
body_at o s = length o + 2 + digit_run (drop (length o + 2) s) + 1

unfoldable pub body_by : List ℕ → ℕ → List ℕ → List ℕ
body_by o n s = part (body_at o s) (n - trailer_width - body_at o s) s

abbrev pub body_in : ℕ → List ℕ → List ℕ
body_in n s = body_by opening n s
