-- `octet::put_zeros` meets its contract.
use Rattle.std.proofs.Common.{rules}
use mathlib.Core.Path.{◌≡◌, sym, ap, ◌∙◌}
use Prim.Native.Nat.{ℕ, ◌+◌, ◌-◌}
use native.Mathlib.Nat.{add-sub_cancel_left}
use lib.Dec.{leb}
use lib.ListN.{length, replicate}
use Rattle.octet.proofs.Lists.{no-room, written}
use Rattle.octet.proofs.Padded.{zeros-length}
use Rattle.octet.proofs.put_zeros.Goals as goal

pub returns-then-not-has_room : goal.returns-then-not-has_room
returns-then-not-has_room c =
    let a = c.args in
    no-room a.dst.now a.at (replicate a.n 0) (ap (λ (k : ℕ). leb (a.at + k) (length a.dst.now)) (zeros-length a.n) ∙ sym c.has_room.ensures ∙ c.if-not-has_room.true)

pub returns : goal.returns
returns c =
    let a = c.args in
    let e : a.at + a.n - a.at ≡ length (replicate {A = ℕ} a.n 0) = add-sub_cancel_left a.at a.n ∙ sym (zeros-length a.n) in
    let z : c.fill.new.self ≡ replicate a.n 0 = search rules in
    written a.dst.now a.at (a.at + a.n - a.at) (replicate a.n 0) e z
    (ap (λ (k : ℕ). leb (a.at + k) (length a.dst.now)) (zeros-length a.n) ∙ sym c.has_room.ensures ∙ c.if-not-has_room.false)
