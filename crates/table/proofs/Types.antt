-- The kind of a type's bytes: UCC, one byte, and any others.
use mathlib.Core.Path.{◌≡◌, refl, sym, ap}
use mathlib.Core.List.{List, [], ◌∷◌}
use mathlib.Core.Bool.{false}
use Prim.Native.Nat.{ℕ}
use native.Mathlib.Omega.{arith}
use lib.ListN.{length, get_or}
use lib.Dec.{eqb}
use borrow.Author.Tests.{ne_eqb}
use Rattle.octet.specs.Bytes.{bytes_of, same, is}
use Rattle.octet.proofs.Cases.{not-true-false, and-no-right}
use Rattle.octet.proofs.Lists.{same_true, length-differs}
use Rattle.answer.specs.declared.Setup.{Setup}
use Rattle.answer.specs.declared.Kind.TheVariants as kind
use Rattle.table.specs.Rows.{kind_of}

-- a list of one
pub only : (t : List ℕ) → length t ≡ 1 → t ≡ get_or t 0 0 ∷ []
only [] e = absurd (omega arith)
only (b ∷ []) e = refl
only (b ∷ x ∷ t) e = absurd (omega arith)

three : (t : List ℕ) → length t ≡ 3 → t ≡ get_or t 0 0 ∷ get_or t 1 0 ∷ get_or t 2 0 ∷ []
three [] e = absurd (omega arith)
three (a ∷ []) e = absurd (omega arith)
three (a ∷ b ∷ []) e = absurd (omega arith)
three (a ∷ b ∷ c ∷ []) e = refl
three (a ∷ b ∷ c ∷ d ∷ t) e = absurd (omega arith)

module _ (setup : Setup) where
  pub kind-ucc : (t : List ℕ) → length t ≡ 3 → get_or t 0 0 ≡ 85 → get_or t 1 0 ≡ 67 → get_or t 2 0 ≡ 67 → kind_of setup t ≡ kind.Correction
  unfolding kind_of
  kind-ucc t l a b c = rw (three t l, a, b, c)

  -- no other type has more or fewer bytes than one
  pub kind-long : (t : List ℕ) → is "UCC" t ≡ false → (length t ≡ 1 → ⊥) → kind_of setup t ≡ kind.Unlisted
  unfolding kind_of
  kind-long t e h =
      let n : (b : ℕ) → same (b ∷ []) t ≡ false = λ b. length-differs (b ∷ []) t (λ p. h (sym p)) in
      rw (n 65, n 48, n 49, n 50, n 52, n 53, n 56, e, n 51, n 106)

  pub kind-other : (t : List ℕ) → (length t ≡ 1 → ⊥) → (length t ≡ 3 → get_or t 0 0 ≡ 85 → get_or t 1 0 ≡ 67 → get_or t 2 0 ≡ 67 → ⊥) → kind_of setup t ≡ kind.Unlisted
  kind-other t h n = kind-long t (not-true-false (is "UCC" t) (λ e. let q = same_true (bytes_of "UCC") t e in absurd (n (sym (ap length q)) (sym (ap (λ (s : List ℕ). get_or s 0 0) q)) (sym (ap (λ (s : List ℕ). get_or s 1 0) q)) (sym (ap (λ (s : List ℕ). get_or s 2 0) q))))) h

  pub kind-one : (t : List ℕ) → length t ≡ 1 → kind_of setup t ≡ kind_of setup (get_or t 0 0 ∷ [])
  kind-one t h = ap (kind_of setup) (only t h)

  -- a byte that is no type
  pub kind-none : (b : ℕ) → (b ≡ 65 → ⊥) → (b ≡ 48 → ⊥) → (b ≡ 49 → ⊥) → (b ≡ 50 → ⊥) → (b ≡ 52 → ⊥) → (b ≡ 53 → ⊥) → (b ≡ 56 → ⊥) → (b ≡ 51 → ⊥)
      → (b ≡ 106 → ⊥) → kind_of setup (b ∷ []) ≡ kind.Unlisted
  unfolding kind_of
  kind-none b logon heartbeat test resend reset logout report reject j =
      let no : (x : ℕ) → (b ≡ x → ⊥) → eqb x b ≡ false = λ x h. ne_eqb x b (λ e. h (sym e)) in
      rw (
        no 65 logon,
        no 48 heartbeat,
        no 49 test,
        no 50 resend,
        no 52 reset,
        no 53 logout,
        no 56 report,
        no 51 reject,
        no 106 j,
        and-no-right (eqb 85 b) false refl,
      )
