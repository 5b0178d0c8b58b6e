-- The sum of bytes.
--     sum-append, check-append     the sum of two texts, one after the other
--     fold-check     the sum modulo 256, taken byte by byte
use Rattle.std.proofs.Common.{◌≡◌, ℕ, ◌+◌, ◌%◌, List, [], ◌∷◌, ◌++◌, fold, sym, ap, ◌∙◌, add_assoc, add-zero, zero-add, arith}
use Rattle.octet.specs.Bytes.{sum_of}
use Rattle.text.specs.Decimal.{check_sum}

pub sum-append : (s t : List ℕ) → sum_of (s ++ t) ≡ sum_of s + sum_of t
sum-append [] t = sym (zero-add (sum_of t))
sum-append (b ∷ s) t = ap (λ (n : ℕ). b + n) (sum-append s t) ∙ sym (add_assoc b (sum_of s) (sum_of t))

pub check-append : (s t : List ℕ) → check_sum (s ++ t) ≡ (check_sum s + check_sum t) % 256
check-append s t = rw sum-append (omega arith)

fold-from : (n : ℕ) (s : List ℕ) → fold (λ t b. (t + b) % 256) (n % 256) s ≡ (n + sum_of s) % 256
fold-from n [] = rw add-zero
fold-from n (b ∷ s) =
    let e : (n % 256 + b) % 256 ≡ (n + b) % 256 = omega arith in
    rw e (fold-from (n + b) s ∙ rw add_assoc)

pub fold-check : (s : List ℕ) → fold (λ t b. (t + b) % 256) 0 s ≡ check_sum s
fold-check s = fold-from 0 s ∙ rw zero-add
