-- What a writer puts together is read back: the length in decimal, as we write it, and the sum in the trailer.
--     written     over any opening, whatever follows
--     written-body     the body is found in it
--     sum-only     three digits whose number is the sum are those of the trailer
use mathlib.Core.Path.{◌≡◌, sym, ◌∙◌, ap, ap₂}
use mathlib.Core.List.{List, ◌++◌}
use mathlib.Core.Bool.{true}
use Prim.Native.Nat.{ℕ, ◌≤◌}
use native.Mathlib.Omega.{arith}
use lib.ListN.{length}
use lib.Dec.{lit<}
use Rattle.octet.specs.Bytes.{bytes_of, all_in}
use Rattle.octet.proofs.Places.{places-value}
use Rattle.text.specs.Decimal.{digits, decimal, fixed, check_sum}
use Rattle.text.proofs.Decimals.{decimal-some, decimal-length, decimal-digits, decimal-back}
use Rattle.frame.specs.Finding.{body_ok, trailer_of, found_by, body_by}
use Rattle.frame.specs.declared.Found.TheVariants.{Framed}
use Rattle.frame.proofs.Bodies.{body-long}
use Rattle.frame.proofs.Complete.{Parts, message, complete, body-found}

decimal-parts : (b : List ℕ) → body_ok b ≡ true → length b ≤ 4072 → Parts (decimal (length b)) b
decimal-parts b ok high = record {
  only = decimal-digits (length b);
  some = decimal-some (length b);
  few = decimal-length 3 (length b) (omega arith);
  value = decimal-back (length b);
  low = body-long b ok;
  high = high;
  body = ok;
}

-- `before o (decimal (length b)) b` is o ++ bytes_of "9=" ++ decimal (length b) ++ bytes_of "|" ++ b, and the message is that and its trailer
module _ (o b rest : List ℕ) (ok : body_ok b ≡ true) (high : length b ≤ 4072) where
  pub written : found_by o (message o (decimal (length b)) b ++ rest) ≡ Framed (length (message o (decimal (length b)) b))
  written = complete o (decimal (length b)) b rest (decimal-parts b ok high)

  pub written-body : body_by o (length (message o (decimal (length b)) b)) (message o (decimal (length b)) b ++ rest) ≡ b
  written-body = body-found o (decimal (length b)) b rest (decimal-parts b ok high)

-- the same where what comes before the trailer is called something else
module _ (o b h rest : List ℕ) (e : h ≡ o ++ bytes_of "9=" ++ decimal (length b) ++ bytes_of "|" ++ b) (ok : body_ok b ≡ true) (high : length b ≤ 4072) where
  same-message : h ++ trailer_of (check_sum h) ≡ message o (decimal (length b)) b
  same-message = ap (λ (x : List ℕ). x ++ trailer_of (check_sum x)) e

  pub written_as : found_by o (h ++ trailer_of (check_sum h) ++ rest) ≡ Framed (length (h ++ trailer_of (check_sum h)))
  written_as = rw same-message (written o b rest ok high)

  pub written-body-as : body_by o (length (h ++ trailer_of (check_sum h))) (h ++ trailer_of (check_sum h) ++ rest) ≡ b
  written-body-as = rw same-message (written-body o b rest ok high)

-- "three digits" that write the sum are the trailer's
pub sum-only : (ds : List ℕ) (c : ℕ) → length ds ≡ 3 → all_in 48 57 ds ≡ true → digits ds ≡ c → bytes_of "10=" ++ ds ++ bytes_of "|" ≡ trailer_of c
sum-only ds c three only e =
    ap (λ (x : List ℕ). bytes_of "10=" ++ x ++ bytes_of "|") (sym (places-value 10 48 (lit< tt) 57 (lit< tt) ds only) ∙ ap₂ fixed three e)
