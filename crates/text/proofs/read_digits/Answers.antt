-- `text::read_digits` meets its contract. The invariant: what is left to read, after what is read so far, is what the definition says.
-- Assumes nothing.
use Rattle.std.proofs.Common.{◌≡◌, ℕ, ◌-◌, ◌<◌, ◌≤◌, ◌^◌, true, get_or, take, sym, ap, ◌∙◌, arith, lit<, length-take, rules}
use Rattle.std.proofs.lemmas.List.{get_or-take}
use Rattle.octet.specs.Bytes.{between}
use Rattle.octet.proofs.Lists.{between-high}
use Rattle.octet.proofs.Places.{more-fits, below-pow}
use Rattle.text.proofs.ReadLaws.{start, more}
use Rattle.text.proofs.read_digits.Goals as goal

pub loop-len-init : goal.loop-len-init
loop-len-init c = (lit< tt, start _ _ _ (omega arith))

small : (v i n : ℕ) → v < 10 ^ i → i < n → n ≤ 9 → v < 10 ^ 8
small v i n h l m = below-pow 10 8 (lit< tt) h (omega arith)

pub overflow_mul-value : goal.overflow_mul-value
overflow_mul-value c =
    let s = small _ _ c.min-end.result c.loop-len.invariant.0 (omega (arith, length-take {A = ℕ})) (omega arith) in
    omega arith

pub overflow_add-value : goal.overflow_add-value
overflow_add-value c =
    let s = small _ _ c.min-end.result c.loop-len.invariant.0 (omega (arith, length-take {A = ℕ})) (omega arith) in
    omega arith

pub loop-len-preserved : goal.loop-len-preserved
loop-len-preserved c =
    let s = c.args.s.now in
    let l = c.loop-len in
    let n = c.min-end.result in
    let h : l.len < n = omega (arith, length-take {A = ℕ}) in
    let e : get_or (take n s) l.len 0 ≡ get_or s l.len 0 = get_or-take n s l.len 0 h in
    let t : c.is_ascii_digit.result ≡ true = search rules in
    let g : between 48 57 (get_or s l.len 0) ≡ true = ap (between 48 57) (sym e) ∙ sym c.is_ascii_digit.ensures.value ∙ t in
    let d : c.from.result ≡ get_or s l.len 0 - 48 = c.from.ensures ∙ ap (λ (b : ℕ). b - 48) e in
    rw d (
      more-fits 10 _ l.invariant.0 (omega (arith, between-high 48 57 (get_or s l.len 0) g)),
      l.invariant.1 ∙ more l.len l.value n l.len s (omega arith) h g,
    )
