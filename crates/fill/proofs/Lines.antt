-- A slot's line of the listing: how it is written word by word, and how long it is.
--     fill-digits, entry-digits     by how many digits its numbers have
--     line-short     a line has at most line_room bytes, 128
use mathlib.Core.Path.{◌≡◌, refl, ap, ◌∙◌}
use mathlib.Core.List.{List, [], ◌∷◌, ◌++◌, append_assoc}
use mathlib.Core.Logic.{⊎_elim}
use mathlib.Core.Bool.{true, false, cond}
use Prim.Native.Nat.{ℕ, suc, ◌+◌, ◌≤◌, ◌<◌, ◌^◌, ◌/◌}
use native.Mathlib.Nat.{zero-add, le_trans}
use native.Mathlib.Omega.{arith}
use lib.Dec.{lit<}
use lib.ListN.{get_or, get_or-eq_default, length, length-append, length-take, length-drop}
use Rattle.octet.specs.Bytes.{bytes_of, between, all_in, part}
use Rattle.octet.specs.Places.{number_in, big_endian}
use Rattle.octet.proofs.Cases.{le-or-lt, of-cond, and-make}
use Rattle.octet.proofs.Lists.{is-between, part_at, part-most}
use Rattle.octet.proofs.Places.{below-pow, value-below}
use Rattle.octet.specs.Splice.{splice, fits_at}
use Rattle.octet.specs.Padded.{text_of}
use Rattle.text.specs.Decimal.{decimal, price_text}
use Rattle.text.specs.Writing.{puts, held, empty}
use Rattle.text.proofs.Decimals.{decimal-length, fixed-length}
use Rattle.text.proofs.Puts.{puts-puts, held-short}
use Rattle.text.specs.declared.Text.{Text}
use Rattle.fill.specs.Slot.{Slot, is_entry, width_of, place_of, line_room, exec_of, order_of, symbol_of, side_of, shares_of, price_of, line_feed, fill_line}
use Rattle.fill.specs.Entry.{entry_width_of, entry_place_of, trade_of, number_of, entry_side_of, transaction_of, entry_line}
use Rattle.fill.specs.Booked.{line_of}

-- an entry's, word by word
six-words : (t : Text) (first space u v w x y last : List ℕ)
    → puts (puts (puts (puts (puts (puts (puts t first) (space ++ u)) (space ++ v)) (space ++ w)) (space ++ x)) (space ++ y)) last
    ≡ puts t ((first ++ space ++ (u ++ space ++ (v ++ space ++ (w ++ space ++ (x ++ space ++ y))))) ++ last)
six-words t first space u v w x y last = simp (puts-puts, append_assoc)

pub entry-words : (n : ℕ) (s : Slot) (t b d e f g h i : Text) (entry number side transaction : ℕ) (trade : List ℕ)
    → b ≡ puts t (bytes_of "C") → entry ≡ n → d ≡ puts b (bytes_of " " ++ decimal entry) → trade ≡ trade_of s → e ≡ puts d (bytes_of " " ++ text_of trade)
    → number ≡ number_of s → f ≡ puts e (bytes_of " " ++ decimal number) → side ≡ entry_side_of s → g ≡ puts f (bytes_of " " ++ decimal side)
    → transaction ≡ transaction_of s → h ≡ puts g (bytes_of " " ++ decimal transaction) → i ≡ puts h line_feed → i ≡ puts t (entry_line n s)
unfolding entry_line
entry-words n s t b d e f g h i entry number side transaction trade eb en ed et ee ek ef es eg ex eh ei =
    let line = six-words t (bytes_of "C") (bytes_of " ") (decimal n) (text_of (trade_of s)) (decimal (number_of s)) (decimal (entry_side_of s)) (decimal (transaction_of s)) line_feed in
    rw (ei, eh, ex, eg, es, ef, ek, ee, et, ed, en, eb) line

-- any slot's, by its first byte
pub line-entry : (n : ℕ) (s : Slot) → is_entry s ≡ true → line_of n s ≡ entry_line n s
unfolding line_of
line-entry n s e = rw e

pub line-fill : (n : ℕ) (s : Slot) → is_entry s ≡ false → line_of n s ≡ fill_line n s
unfolding line_of
line-fill n s e = rw e

-- ---- how long
pub text-most : (width : ℕ) (f : List ℕ) → length f ≤ suc width → length (text_of f) ≤ width
unfolding text_of
text-most width f h = rw (length-take, length-drop) (omega arith)

-- by how many digits its numbers have after their first
pub fill-digits : (a b d e n : ℕ) (s : Slot) → n < 10 ^ suc a → side_of s < 10 ^ suc b → shares_of s < 10 ^ suc d → price_of s / 10000 < 10 ^ suc e
    → length (fill_line n s) ≤ 86 + (a + b + d + e)
unfolding fill_line price_text
fill-digits a b d e n s hn hs hq hp =
    let number = decimal-length a n hn in
    let exec = text-most 20 (exec_of s) (part-most (place_of 0) (width_of 0) s) in
    let order = text-most 20 (order_of s) (part-most (place_of 1) (width_of 1) s) in
    let symbol = text-most 8 (symbol_of s) (part-most (place_of 2) (width_of 2) s) in
    let side = decimal-length b (side_of s) hs in
    let shares = decimal-length d (shares_of s) hq in
    let price = decimal-length e (price_of s / 10000) hp in
    let time = part-most (place_of 8) (width_of 8) s in
    simp (length-append, fixed-length) (omega arith)

pub entry-digits : (a b d e n : ℕ) (s : Slot) → n < 10 ^ suc a → number_of s < 10 ^ suc b → entry_side_of s < 10 ^ suc d → transaction_of s < 10 ^ suc e
    → length (entry_line n s) ≤ 31 + (a + b + d + e)
unfolding entry_line
entry-digits a b d e n s hn hk hs ht =
    let number = decimal-length a n hn in
    let trade = text-most 20 (trade_of s) (part-most (entry_place_of 0) (entry_width_of 0) s) in
    let correction = decimal-length b (number_of s) hk in
    let side = decimal-length d (entry_side_of s) hs in
    let transaction = decimal-length e (transaction_of s) ht in
    simp length-append (omega arith)

-- numbers of bytes fit
bytes-part : (at n : ℕ) (s : List ℕ) → ((i : ℕ) → get_or s i 0 < 256) → (i : ℕ) → get_or (part at n s) i 0 < 256
bytes-part at n s h i =
    ⊎_elim
    (λ g. rw (get_or-eq_default (part at n s) 0 {n = i} (le_trans (part-most at n s) g)) (omega arith))
    (λ g. rw (part_at at n i s g) (h (at + i)))
    (le-or-lt n i)

bytes-in : (s : List ℕ) → ((i : ℕ) → get_or s i 0 < 256) → all_in 0 255 s ≡ true
bytes-in [] h = refl
bytes-in (b ∷ s) h = and-make (between 0 255 b) (all_in 0 255 s) (is-between 0 255 b (omega arith) (omega (arith, h 0))) (bytes-in s (λ i. h (suc i)))

number-most : (at n : ℕ) (s : List ℕ) → ((i : ℕ) → get_or s i 0 < 256) → big_endian (part at n s) < 256 ^ n
unfolding number_in
number-most at n s h =
    below-pow 256 n (lit< tt) (value-below 256 0 (lit< tt) 255 (lit< tt) (part at n s) (bytes-in (part at n s) (bytes-part at n s h))) (part-most at n s)

-- a line has at most line_room bytes, 128, whatever the bytes of the slot
pub line-short : (n : ℕ) (s : Slot) → n < 256 ^ 4 → ((i : ℕ) → get_or s i 0 < 256) → length (line_of n s) ≤ line_room
unfolding line_of
line-short n s h b =
    let number = number-most (entry_place_of 1) (entry_width_of 1) s b in
    let code = number-most (entry_place_of 2) (entry_width_of 2) s b in
    let kind = number-most (entry_place_of 3) (entry_width_of 3) s b in
    let side = number-most (place_of 3) (width_of 3) s b in
    let shares = number-most (place_of 5) (width_of 5) s b in
    let price = number-most (place_of 6) (width_of 6) s b in
    let e = entry-digits 9 9 2 2 n s (omega arith) (omega arith) (omega arith) (omega arith) in
    let f = fill-digits 9 2 9 15 n s (omega arith) (omega arith) (omega arith) (omega arith) in
    of-cond (λ (l : List ℕ). length l ≤ line_room) (is_entry s) (λ y. omega arith) (λ y. omega arith)

-- so a text holds it whole
pub line-held : (n : ℕ) (s : Slot) → length (line_of n s) ≤ line_room → held (puts empty (line_of n s)) ≡ line_of n s
line-held n s h = held-short (line_of n s) (omega arith)

pub line-placed : (n : ℕ) (s : Slot) (line : List ℕ) (t : Text) (line' : List ℕ) (r : ℕ) → n < 256 ^ 4 → ((i : ℕ) → get_or s i 0 < 256) → t ≡ puts empty (line_of n s)
    → line' ≡ splice line 0 (held t) → r ≡ cond (fits_at line 0 (held t)) (0 + length (held t)) 0
    → (line' ≡ splice line 0 (line_of n s)) × ((r ≡ cond (fits_at line 0 (line_of n s)) (length (line_of n s)) 0) × (length (line_of n s) ≤ line_room))
line-placed n s line t line' r hn hs et el er =
    let h = line-short n s hn hs in
    let e : held t ≡ line_of n s = ap held et ∙ line-held n s h in (
      el ∙ ap (splice line 0) e,
      (er ∙ ap (λ (k : ℕ). cond (fits_at line 0 (held t)) k 0) (zero-add (length (held t))) ∙ ap (λ (x : List ℕ). cond (fits_at line 0 x) (length x) 0) e, h),
    )
