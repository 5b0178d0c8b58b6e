-- An index laid out as C lends it: the starts, then the lengths, then the counts.
--     laid f d at x i  the first i columns' numbers f lie over d from place at on
--     laid-none        none lies.        laid-more        one more is laid.        laid-size        the length stays.        laid-out         all of them are laid
-- Assumes nothing.
use mathlib.Core.Path.{◌≡◌, sym, ap, ◌∙◌}
use Prim.Native.Nat.{ℕ, ◌+◌, ◌≤◌, ◌<◌}
use native.Mathlib.Omega.{arith}
use mathlib.Core.List.{List, map, [], ◌++◌, append-nil, append_assoc}
use lib.ListN.{length, drop, set, get_or, length-append, get_or-map, drop_of_length-le}
use lib.Seq.{paste}
use Rattle.std.proofs.lemmas.List.{length-map}
use Rattle.std.proofs.lemmas.List.Edits.{paste_none, paste_more, paste_all, paste-paste, length-paste}
use Rattle.field.specs.declared.Column.{Column}
use Rattle.bench.specs.Timed.{cells_of}

abbrev pub start : Column → ℕ
start c = c.start

abbrev pub len : Column → ℕ
len c = c.len

abbrev pub count : Column → ℕ
count c = c.count

abbrev pub laid : (Column → ℕ) → List ℕ → ℕ → List Column → ℕ → List ℕ
laid f d at x i = paste d at (map f x) i

pub laid-none : (f : Column → ℕ) (d : List ℕ) (at : ℕ) (x : List Column) → d ≡ laid f d at x 0
laid-none f d at x = paste_none d at (map f x)

pub laid-more : (f : Column → ℕ) (d : List ℕ) (at : ℕ) (x : List Column) (i : ℕ) (z : Column) {k : ℕ} {cells : List ℕ} → k ≡ at + i → cells ≡ laid f d at x i
    → at + i < length d → i < length x → set cells k (f (get_or x i z)) ≡ laid f d at x (i + 1)
laid-more f d at x i z {k} {cells} place e room more =
    ap (λ (n : ℕ). set cells n (f (get_or x i z))) place
    ∙ ap (λ (l : List ℕ). set l (at + i) (f (get_or x i z))) e
    ∙ ap (λ (n : ℕ). set (laid f d at x i) (at + i) n) (sym (get_or-map f x i z))
    ∙ paste_more d at (map f x) i (f z) room (rw (length-map x f) more)

pub laid-size : (f : Column → ℕ) (d : List ℕ) (at : ℕ) (x : List Column) (i : ℕ) {cells : List ℕ} → cells ≡ laid f d at x i → at + i ≤ length d → i ≤ length x
    → length cells ≡ length d
laid-size f d at x i e room most = ap (λ (l : List ℕ). length l) e ∙ length-paste d at (map f x) i room (rw (length-map x f) most)

pub laid-out : (d : List ℕ) (x : List Column) {a b c : List ℕ} → length d ≡ 105 → length x ≡ 35 → a ≡ laid start d 0 x 35 → b ≡ laid len a 35 x 35
    → c ≡ laid count b 70 x 35 → c ≡ cells_of x
laid-out d x size many p q r =
    let starts = map start x in
    let lens = map len x in
    let counts = map count x in
    let all = (starts ++ lens) ++ counts in
    let s : 35 ≡ length starts = sym (length-map x start ∙ many) in
    let l : 35 ≡ length lens = sym (length-map x len ∙ many) in
    let n : 35 ≡ length counts = sym (length-map x count ∙ many) in
    let sl : 70 ≡ length (starts ++ lens) = rw length-append (omega arith) in
    let sln : 105 ≡ length all = rw length-append (omega arith) in
    let short : length d ≤ 105 = omega arith in
    let past : drop 105 d ≡ [] = drop_of_length-le d short in
    r
    ∙ ap (λ (y : List ℕ). laid count y 70 x 35) (q ∙ ap (λ (y : List ℕ). laid len y 35 x 35) p ∙ paste-paste d 0 starts lens 35 35 s l (omega arith))
    ∙ paste-paste d 0 (starts ++ lens) counts 70 35 sl n (omega arith)
    ∙ paste_all d 0 all 105 sln
    ∙ ap (λ (y : List ℕ). all ++ y) past
    ∙ append-nil all
    ∙ append_assoc starts lens counts
