-- What a call is given, as a message that it writes can hold it: IDs that were granted, a time that is not refused, and the word of a framed message have no byte 1.
--     agreed     the IDs of a set-up that was granted
--     time-clear     a time that is not refused
--     text-plain, type-clear     the values of a message, and the type of a framed one
--     text-inside     the length of a value
--     Told, fault-told     a fault as a Reject can tell of it: its digits, and for reason 6 the value that fails
use Prim.Native.Nat.{ℕ, zero, suc, ◌+◌, ◌^◌, ◌≤◌, ◌<◌}
use mathlib.Core.Path.{◌≡◌, refl, sym, ap, ◌∙◌, subst}
use mathlib.Core.Logic.{⊎_elim}
use mathlib.Core.List.{List, [], ◌∷◌, ◌++◌, append_assoc}
use mathlib.Core.Option.{Option, none, some}
use mathlib.Core.Bool.{Bool, true, false, ◌&&◌, not}
use native.Mathlib.Omega.{arith}
use lib.ListN.{length, take, drop, get_or, replicate, length-append, length-drop}
use lib.Seq.{take_all}
use lib.Dec.{ltb, eqb}
use borrow.Author.Tests.{eqb-true, ltb-true, not-false}
use Rattle.octet.specs.Bytes.{bytes_of, between, all_in, until_byte, joined}
use Rattle.octet.specs.Maybe.{or_else, first, unless}
use Rattle.octet.specs.Splice.{splice}
use Rattle.octet.proofs.Cases.{of-cond, bool_case, and_both}
use Rattle.octet.proofs.Lists.{splice-take, until-in, between-low, between-high}
use Rattle.text.specs.Decimal.{digit_run, digits}
use Rattle.value.specs.Value.{is_time}
use Rattle.value.proofs.Numbers.{front_below}
use Rattle.value.proofs.Times.{time-bytes}
use Rattle.frame.specs.Finding.{opening, found_in, body_in}
use Rattle.frame.specs.declared.Found.TheVariants as found
use Rattle.frame.proofs.Bodies.{body-parts}
use Rattle.frame.proofs.Sound.{sound}
use Rattle.field.specs.Pieces.{Scan, Pieces, on_first, pieces_of, tagged, valued, carries, values_of, text_at, piece_scan, and_then, scan_of}
use Rattle.field.specs.Look.{Look, look_of}
use Rattle.field.specs.declared.Unsound.TheVariants.{Malformed, Empty}
use Rattle.field.proofs.Cuts.{pieces-mark}
use Rattle.answer.specs.Setup.{id_of, id_with, ours, theirs}
use Rattle.answer.specs.Numbers.{inside, fault}
use Rattle.answer.specs.declared.Setup.{Setup}
use Rattle.answer.specs.declared.Fault.{Fault}
use Rattle.answer.specs.declared.Phase.{Phase}
use Rattle.answer.specs.declared.Kind.{Kind}
use Rattle.answer.specs.declared.Kind.TheVariants as kind
use Rattle.table.specs.Rows.{table_of, kind_in, tag_of}
use Rattle.table.specs.Steps.{given_of, check_fault, value_check, tag_fault, applies, row_fault, walk, scan_fault, kind_fault, first_fault, fault_in}
use Rattle.table.specs.declared.Row.{Row}
use Rattle.table.specs.declared.Row.TheVariants as row
use Rattle.table.specs.declared.Given.{Given}
use Rattle.table.specs.declared.Form.{Form}
use Rattle.value.specs.declared.Flaw.{Flaw}
use Rattle.value.specs.declared.Flaw.TheVariants as flaw
use Rattle.table.specs.Place.{Misformed}
use Rattle.table.proofs.Place.{misformed, at-inside}
use Rattle.wire.specs.Reading.{Clear}
use Rattle.receiver.specs.Receiver.{good_id, setup_with, setting_up, bad_given}
use Rattle.std.specs.Prelude.{Result, Ok, Err}
use Rattle.answer.specs.declared.Refusal.TheVariants as refusal
use Rattle.promise.specs.WrittenRead.{Granted}

abbrev Unmarked : List ℕ → Type 0
Unmarked v = until_byte 1 v ≡ length v

-- ---- the agreed IDs

pub record Agreed (setup : Setup) : Type 0 where
  pub sender : Clear (ours setup)
  pub target : Clear (theirs setup)
  pub widths : (length (ours setup) ≤ 16) × (length (theirs setup) ≤ 16)

id-back : (t : List ℕ) → length t ≤ 16 → id_of (id_with t) ≡ t
unfolding id_with
id-back t h =
    let z : length t ≡ 0 + length t = omega arith in
    let zeros : List ℕ = replicate 16 0 in
    let l : length zeros ≡ 16 = refl in
    ap (λ (n : ℕ). take n (splice zeros 0 t)) z ∙ splice-take zeros 0 t (omega arith)

record GoodId (id : List ℕ) : Type 0 where
  clear : Clear id
  short : length id ≤ 16

good-id : (t : List ℕ) → good_id t ≡ true → GoodId (id_of (id_with t))
good-id t h =
    let p = and_both (between 1 16 (length t)) (all_in 33 126 t) h in
    let most = between-high 1 16 (length t) p.0 in
    subst GoodId (sym (id-back t most)) (record { clear = (between-low 1 16 (length t) p.0, until-in 1 33 126 t p.1 refl); short = most })

pub agreed : (setup : Setup) → Granted setup → Agreed setup
unfolding setting_up setup_with
agreed setup g =
    let a : List ℕ = g.0 in
    let b : List ℕ = g.1 in
    let e = g.2 in
    ⊎_elim
    (λ h. let p = and_both (good_id a) (good_id b) h in
    let x = good-id a p.0 in
    let y = good-id b p.1 in
    let u : setting_up a b ≡ Ok (setup_with a b) = rw h in
    let s : setup_with a b ≡ setup = cc in
    subst Agreed s (record { sender = x.clear; target = y.clear; widths = (x.short, y.short) }))
    (λ h. let no : setting_up a b ≡ Err refusal.BadId = rw h in cc)
    (bool_case (good_id a && good_id b))

-- ---- the given time

pub time-clear : (time : List ℕ) → bad_given time ≡ false → Clear time × (length time ≡ 21)
unfolding bad_given
time-clear time h =
    let p = and_both (eqb (length time) 21) (is_time time) (not-false (eqb (length time) 21 && is_time time) h) in
    let l : length time ≡ 21 = eqb-true (length time) 21 p.0 in
    ((omega arith, until-in 1 45 58 time (time-bytes time p.1) refl), l)

-- ---- the values of a message have no `|`

until-head : (b : ℕ) (s : List ℕ) → Unmarked (b ∷ s) → (eqb b 1 ≡ false) × Unmarked s
until-head b s h =
    of-cond (λ (n : ℕ). n ≡ suc (length s) → (eqb b 1 ≡ false) × Unmarked s) (eqb b 1)
    (λ x y. absurd (omega arith)) (λ x y. (x, omega arith)) h

until-cons : (b : ℕ) (s : List ℕ) → eqb b 1 ≡ false → Unmarked s → Unmarked (b ∷ s)
until-cons b s h e = rw h (ap suc e)

drop-plain : (n : ℕ) (s : List ℕ) → Unmarked s → Unmarked (drop n s)
drop-plain zero s h = h
drop-plain (suc n) [] h = h
drop-plain (suc n) (b ∷ s) h = drop-plain n s (until-head b s h).1

pub take-plain : (n : ℕ) (s : List ℕ) → Unmarked s → Unmarked (take n s)
take-plain zero s h = refl
take-plain (suc n) [] h = h
take-plain (suc n) (b ∷ s) h = let p = until-head b s h in until-cons b (take n s) p.0 (take-plain n s p.1)

abbrev Plain : Pieces → Type 0
Plain [] = Unit {0}
Plain (p ∷ ps) = Unmarked p × Plain ps

on-first : (b : ℕ) (ps : Pieces) → eqb b 1 ≡ false → Plain ps → Plain (on_first b ps)
on-first b [] h e = (until-cons b [] h refl, tt)
on-first b (p ∷ ps) h e = (until-cons b p h e.0, e.1)

pub pieces-plain : (s : List ℕ) → Plain (pieces_of s)
unfolding pieces_of
pieces-plain [] = tt
pieces-plain (b ∷ s) = of-cond Plain (eqb b 1) (λ h. (refl, pieces-plain s)) (λ h. on-first b (pieces_of s) h (pieces-plain s))

values-plain : (tag : ℕ) (ps : Pieces) → Plain ps → Plain (values_of tag ps)
unfolding values_of
values-plain tag [] h = tt
values-plain tag (p ∷ ps) h =
    of-cond Plain (carries tag p) (λ x. (drop-plain (digit_run p + 1) p h.0, values-plain tag ps h.1)) (λ x. values-plain tag ps h.1)

first_plain : (ps : Pieces) → Plain ps → Unmarked (unless [] (first ps))
first_plain [] h = refl
first_plain (p ∷ ps) h = h.0

pub text-plain : (tag : ℕ) (s : List ℕ) → Unmarked (text_at tag (pieces_of s))
text-plain tag s = first_plain (values_of tag (pieces_of s)) (values-plain tag (pieces_of s) (pieces-plain s))

-- ---- and are no longer than the body

pieces-inside : (s : List ℕ) → length (joined (pieces_of s)) ≤ length s
unfolding pieces_of
pieces-inside [] = omega arith
pieces-inside (b ∷ s) =
    of-cond (λ (ps : Pieces). length (joined ps) ≤ suc (length s)) (eqb b 1) (λ h. omega (arith, pieces-inside s)) (λ h. omega (arith, one_more b (pieces_of s), pieces-inside s))
  where
    one_more : (b : ℕ) (ps : Pieces) → length (joined (on_first b ps)) ≡ suc (length (joined ps))
    one_more b [] = refl
    one_more b (p ∷ ps) = refl

values-inside : (tag : ℕ) (ps : Pieces) → length (joined (values_of tag ps)) ≤ length (joined ps)
unfolding values_of
values-inside tag [] = omega arith
values-inside tag (p ∷ ps) =
    let ih = values-inside tag ps in
    let l = length-append p (joined ps) in
    of-cond (λ (vs : Pieces). length (joined vs) ≤ length (p ++ joined ps)) (carries tag p)
    (λ x. let k = length-append (drop (digit_run p + 1) p) (joined (values_of tag ps)) in omega (arith, length-drop (digit_run p + 1) p))
    (λ x. omega arith)

first-inside : (ps : Pieces) → length (unless [] (first ps)) ≤ length (joined ps)
first-inside [] = omega arith
first-inside (p ∷ ps) = omega (arith, length-append p (joined ps))

text-inside : (tag : ℕ) (s : List ℕ) → length (text_at tag (pieces_of s)) ≤ length s
text-inside tag s = omega (arith, first-inside (values_of tag (pieces_of s)), values-inside tag (pieces_of s), pieces-inside s)

-- ---- the type of a framed message: "The body begins `35=`, 1 to 3 bytes, `|`"

type-plain : (t : List ℕ) → Unmarked t → Unmarked (bytes_of "35=" ++ t)
type-plain t h = ap (λ (n : ℕ). suc (suc (suc n))) h

type-first : (t more : List ℕ) → Unmarked t → text_at 35 (pieces_of (bytes_of "35=" ++ t ++ bytes_of "|" ++ more)) ≡ t
unfolding values_of carries
type-first t more h =
    ap (λ (s : List ℕ). text_at 35 (pieces_of s)) (append_assoc (bytes_of "35=" ++ t) (bytes_of "|") more)
    ∙ ap (text_at 35) (pieces-mark (bytes_of "35=" ++ t) more (type-plain t h))

pub type-clear : (s : List ℕ) (len : ℕ) → found_in s ≡ found.Framed len → Clear (take 3 (text_at 35 (pieces_of (body_in len s))))
type-clear s len h =
    let b = body_in len s in
    let x = body-parts b (sound opening s len h).parts.body in
    let t : List ℕ = take (until_byte 1 (drop 3 b)) (drop 3 b) in
    let e : text_at 35 (pieces_of b) ≡ t = ap (λ (y : List ℕ). text_at 35 (pieces_of y)) x.typed ∙ type-first t _ x.plain in
    let f : take 3 t ≡ t = take_all 3 t x.few in
    subst Clear (sym (ap (take 3) e ∙ f)) (x.some, x.plain)

-- ---- the numbers of a fault: a tag of five digits, a reason of two

abbrev Few : Fault → Type 0
Few f = (f.tag < 10 ^ 5) × (f.reason < 10 ^ 2)

abbrev SmallIf : Option Fault → Type 0
SmallIf none = Unit {0}
SmallIf (some f) = Few f

or-small : (p q : Option Fault) → SmallIf p → SmallIf q → SmallIf (or_else p q)
or-small none q h k = k
or-small (some f) q h k = h

abbrev SmallScan : Scan → Type 0
SmallScan (Ok u) = Unit {0}
SmallScan (Err Malformed) = Unit {0}
SmallScan (Err (Empty tag)) = tag < 10 ^ 5

-- a tag has 1 to 5 digits
piece-small : (p : List ℕ) → SmallScan (piece_scan p)
unfolding piece_scan
piece-small p =
    of-cond SmallScan (tagged p)
    (λ t. of-cond SmallScan (valued p) (λ _. tt)
    (λ _. let a = and_both (between 1 5 (digit_run p) && not (eqb (get_or p 0 0) 48)) (eqb (get_or p (digit_run p) 0) 61) t in
    let b = and_both (between 1 5 (digit_run p)) (not (eqb (get_or p 0 0) 48)) a.0 in
    let c : digits (take (digit_run p) p) < 10 ^ 5 = front_below (digit_run p) 5 p (omega arith) (between-high 1 5 (digit_run p) b.0) in
    omega arith))
    (λ _. tt)

then-small : (a b : Scan) → SmallScan a → SmallScan b → SmallScan (and_then a b)
then-small (Ok u) b h k = k
then-small (Err Malformed) b h k = tt
then-small (Err (Empty tag)) b h k = h

scan-small : (ps : Pieces) → SmallScan (scan_of ps)
unfolding scan_of
scan-small [] = tt
scan-small (p ∷ ps) = then-small (piece_scan p) (scan_of ps) (piece-small p) (scan-small ps)

scanned-small : (c : Scan) → SmallScan c → SmallIf (scan_fault c)
scanned-small (Ok u) h = tt
scanned-small (Err Malformed) h = (omega arith, omega arith)
scanned-small (Err (Empty tag)) h = (h, omega arith)

-- the tags of the table
abbrev small_rows : List Row → Bool
small_rows [] = true
small_rows (r ∷ rows) = ltb (tag_of r) 10000 && small_rows rows

-- by its type: the fault of step 6, and the tags of its table
kind-small : (setup : Setup) (phase : Phase) (k : Kind) → SmallIf (kind_fault phase k) × (small_rows (table_of setup k) ≡ true)
kind-small setup phase kind.Logon = (of-cond SmallIf (inside phase) (λ _. (omega arith, omega arith)) (λ _. tt), refl)
kind-small setup phase kind.Heartbeat = (tt, refl)
kind-small setup phase kind.Test = (tt, refl)
kind-small setup phase kind.Resend = (tt, refl)
kind-small setup phase kind.Reset = (tt, refl)
kind-small setup phase kind.Logout = (tt, refl)
kind-small setup phase kind.Report = (tt, refl)
kind-small setup phase kind.Correction = (tt, refl)
kind-small setup phase kind.Other = (tt, refl)
kind-small setup phase kind.Unlisted = ((omega arith, omega arith), refl)

check-small : (tag : ℕ) (c : Result Unit Flaw) → tag < 10000 → SmallIf (check_fault tag c)
check-small tag (Ok u) h = tt
check-small tag (Err (flaw.Form at)) h = (omega arith, omega arith)
check-small tag (Err flaw.Range) h = (omega arith, omega arith)

tag_small : (given : Given) (look : Look) (tag : ℕ) (needed : Bool) (form : Form) → tag < 10000 → SmallIf (tag_fault given look tag needed form)
unfolding tag_fault
tag_small given look tag needed form h =
    of-cond SmallIf (eqb (look.count tag) 0) (λ _. of-cond SmallIf needed (λ _. (omega arith, omega arith)) (λ _. tt))
    (λ _. of-cond SmallIf (eqb (look.count tag) 1) (λ _. check-small tag (value_check given look form (look.text tag)) h) (λ _. (omega arith, omega arith)))

row_small : (given : Given) (look : Look) (r : Row) → tag_of r < 10000 → SmallIf (row_fault given look r)
row_small given look (row.Needs tag form place) h =
    of-cond SmallIf (applies given place) (λ _. tag_small given look tag true form h) (λ _. tt)
row_small given look (row.May tag form place) h =
    of-cond SmallIf (applies given place) (λ _. tag_small given look tag false form h) (λ _. tt)

walk-small : (given : Given) (look : Look) (rows : List Row) → small_rows rows ≡ true → SmallIf (walk given look rows)
unfolding walk
walk-small given look [] h = tt
walk-small given look (r ∷ rows) h =
    let p = and_both (ltb (tag_of r) 10000) (small_rows rows) h in
    or-small (row_fault given look r) (walk given look rows) (row_small given look r (ltb-true (tag_of r) 10000 p.0)) (walk-small given look rows p.1)

fault-small : (setup : Setup) (phase : Phase) (o : ℕ) (ps : Pieces) → SmallIf (fault_in setup phase o ps)
unfolding fault_in first_fault
fault-small setup phase o ps =
    let k : Kind = kind_in setup ps in
    let x = kind-small setup phase k in
    or-small (scan_fault (scan_of ps)) _ (scanned-small (scan_of ps) (scan-small ps))
    (or-small (kind_fault phase k) _ x.0 (walk-small (given_of phase o) (look_of ps) (table_of setup k) x.1))

-- ---- a fault as a Reject tells of it

pub record Told (setup : Setup) (ps : Pieces) (f : Fault) : Type 0 where
  pub few : Few f
  pub place : f.at < 10 ^ 4
  pub form : f.reason ≡ 6 → Misformed setup ps f

abbrev pub ToldIf : Setup → Pieces → Option Fault → Type 0
ToldIf setup ps none = Unit {0}
ToldIf setup ps (some f) = Told setup ps f

-- one that is none of form
pub plainly : (setup : Setup) (ps : Pieces) (reason tag : ℕ) → (reason ≡ 6 → ⊥) → reason < 10 ^ 2 → tag < 10 ^ 5 → Told setup ps (fault reason tag)
plainly setup ps reason tag other r t = record { few = (t, r); place = omega arith; form = λ e. absurd (other e) }

-- what steps 5 to 7 find in a framed message
pub fault-told : (setup : Setup) (phase : Phase) (o : ℕ) (s : List ℕ) (len : ℕ) → found_in s ≡ found.Framed len
    → ToldIf setup (pieces_of (body_in len s)) (fault_in setup phase o (pieces_of (body_in len s)))
fault-told setup phase o s len framed = go (fault_in setup phase o ps) refl (fault-small setup phase o ps)
  where
    ps : Pieces
    ps = pieces_of (body_in len s)

    place : (f : Fault) → fault_in setup phase o ps ≡ some f → f.at < 10 ^ 4
    place f e = omega (arith, at-inside setup phase o ps f e, text-inside f.tag (body_in len s), (sound opening s len framed).parts.high)

    go : (o' : Option Fault) → fault_in setup phase o ps ≡ o' → SmallIf o' → ToldIf setup ps o'
    go none e h = tt
    go (some f) e h = record { few = h; place = place f e; form = misformed setup phase o ps f e }
