-- What writes come to, taken together.
--     sent-fits     where a message ends, where there is room for it
--     replied-no, replied-none, replied-one, replied-two     a reply, by its case; `replies` are those of one message or none
--     replied-full, replied-inside     what a caller has: the reply where the buffer has 512 bytes, and an end inside the buffer
use mathlib.Core.Path.{◌≡◌, refl, sym, ap, ◌∙◌}
use mathlib.Core.Logic.{⊎_elim}
use mathlib.Core.List.{List, [], ◌++◌}
use Prim.Native.Nat.{ℕ, ◌+◌, ◌≤◌, ◌<◌}
use native.Mathlib.Nat.{zero-add}
use native.Mathlib.Omega.{arith}
use borrow.Author.Tests.{lt-ltb, le-ltb}
use lib.ListN.{length, length-append}
use lib.Dec.{ltb}
use Rattle.octet.specs.Splice.{splice, fits_at}
use Rattle.octet.proofs.Cases.{cond-true, le-or-lt}
use Rattle.octet.proofs.Lists.{fits-true, splice-length, splice-then, splice-nil}
use Rattle.wire.specs.Sending.{reply_room, Sent, Replied}

-- a message where there is room for it
pub sent-fits : {old new m : List ℕ} {at r : ℕ} → Sent old new at r m → at + length m ≤ length old → r ≡ at + length m
sent-fits {old} {new} {m} {at} {r} w h = w.end ∙ cond-true (fits_at old at m) (at + length m) at (fits-true old at m h)

pub replied-no : {old : List ℕ} (m : List ℕ) → length old < reply_room → Replied old old 0 m
replied-no m h = record { bytes = rw (lt-ltb _ _ h); end = rw (lt-ltb _ _ h); short = omega arith }

module _ {old : List ℕ} (h : reply_room ≤ length old) where
  pub replied-is : {new m : List ℕ} {r : ℕ} → new ≡ splice old 0 m → r ≡ length m → length m ≤ reply_room → Replied old new r m
  replied-is b e s = record { bytes = rw (le-ltb _ _ h) b; end = rw (le-ltb _ _ h) e; short = omega arith }

  pub replied-none : Replied old old 0 []
  replied-none = replied-is (sym (splice-nil old 0)) refl (omega arith)

  pub replied-one : {new m : List ℕ} {r : ℕ} → Sent old new 0 r m → Replied old new r m
  replied-one {new} {m} {r} w =
      let s = w.short in
      replied-is w.bytes (sent-fits w (omega arith) ∙ zero-add (length m)) (omega arith)

  pub replied-two : {mid new m n : List ℕ} {a r : ℕ} → Sent old mid 0 a m → Sent mid new a r n → Replied old new r (m ++ n)
  replied-two {mid} {new} {m} {n} {a} {r} w v =
      let s = w.short in
      let t = v.short in
      let e : a ≡ 0 + length m = sent-fits w (omega arith) in
      let l : length mid ≡ length old = ap length w.bytes ∙ splice-length old 0 m in
      replied-is
      (v.bytes ∙ ap (λ (d : List ℕ). splice d a n) w.bytes ∙ splice-then old 0 a m n e (omega arith))
      (sent-fits v (omega arith) ∙ simp length-append (omega arith))
      (simp length-append (omega arith))

  -- what a caller has
  pub replied-full : {new m : List ℕ} {r : ℕ} → Replied old new r m → (new ≡ splice old 0 m) × (r ≡ length m)
  replied-full w = (rw (le-ltb _ _ h) at w.bytes, rw (le-ltb _ _ h) at w.end)

pub replied-inside : {old new m : List ℕ} {r : ℕ} → Replied old new r m → r ≤ length old
replied-inside {old} {new} {m} {r} w =
    ⊎_elim
    (λ h. omega (arith, w.short))
    (λ h. omega (arith, w.end ∙ cond-true (ltb (length old) reply_room) 0 (length m) (lt-ltb _ _ h)))
    (le-or-lt reply_room (length old))

-- a reply of one message or none, for the check to find
pub ruleset replies = (replied-no, replied-none, replied-one)
