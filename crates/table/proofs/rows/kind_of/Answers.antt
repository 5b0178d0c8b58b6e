-- `table::rows::kind_of` meets its contract: one byte by its arms, UCC, and any others.
use mathlib.Core.Path.{◌≡◌, sym, ◌∙◌}
use native.Mathlib.Omega.{arith}
use lib.ListN.{get_or}
use Rattle.table.specs.Rows.{kind_of}
use Rattle.table.proofs.Types.{kind-ucc, kind-other, kind-one, kind-none}
use Rattle.table.proofs.rows.kind_of.Goals as goal

pub returns-in-A : goal.returns-in-A
unfolding kind_of
returns-in-A c = let t = c.args.t.now in let b : get_or t 0 0 ≡ 65 = omega arith in rw (kind-one c.args.setup t (omega arith), b)

pub returns-in-48 : goal.returns-in-48
unfolding kind_of
returns-in-48 c = let t = c.args.t.now in let b : get_or t 0 0 ≡ 48 = omega arith in rw (kind-one c.args.setup t (omega arith), b)

pub returns-in-49 : goal.returns-in-49
unfolding kind_of
returns-in-49 c = let t = c.args.t.now in let b : get_or t 0 0 ≡ 49 = omega arith in rw (kind-one c.args.setup t (omega arith), b)

pub returns-in-50 : goal.returns-in-50
unfolding kind_of
returns-in-50 c = let t = c.args.t.now in let b : get_or t 0 0 ≡ 50 = omega arith in rw (kind-one c.args.setup t (omega arith), b)

pub returns-in-52 : goal.returns-in-52
unfolding kind_of
returns-in-52 c = let t = c.args.t.now in let b : get_or t 0 0 ≡ 52 = omega arith in rw (kind-one c.args.setup t (omega arith), b)

pub returns-in-53 : goal.returns-in-53
unfolding kind_of
returns-in-53 c = let t = c.args.t.now in let b : get_or t 0 0 ≡ 53 = omega arith in rw (kind-one c.args.setup t (omega arith), b)

pub returns-in-56 : goal.returns-in-56
unfolding kind_of
returns-in-56 c = let t = c.args.t.now in let b : get_or t 0 0 ≡ 56 = omega arith in rw (kind-one c.args.setup t (omega arith), b)

pub returns-in-51 : goal.returns-in-51
unfolding kind_of
returns-in-51 c = let t = c.args.t.now in let b : get_or t 0 0 ≡ 51 = omega arith in rw (kind-one c.args.setup t (omega arith), b)

pub returns-in-51-2 : goal.returns-in-51-2
unfolding kind_of
returns-in-51-2 c = let t = c.args.t.now in let b : get_or t 0 0 ≡ 106 = omega arith in rw (kind-one c.args.setup t (omega arith), b)

pub returns-in-UCC : goal.returns-in-UCC
returns-in-UCC c = sym (kind-ucc c.args.setup c.args.t.now (omega arith) (omega arith) (omega arith) (omega arith))

pub returns-in_default : goal.returns-in_default
returns-in_default c = sym (kind-other c.args.setup c.args.t.now (λ e. omega arith) (λ l a b d. omega arith))

pub returns-in_default-2 : goal.returns-in_default-2
returns-in_default-2 c =
    let t = c.args.t.now in
    sym
    (kind-one c.args.setup t (omega arith)
    ∙ kind-none c.args.setup (get_or t 0 0)
    (λ e. omega arith) (λ e. omega arith) (λ e. omega arith) (λ e. omega arith) (λ e. omega arith) (λ e. omega arith) (λ e. omega arith) (λ e. omega arith) (λ e. omega arith))

pub returns-in_default-3 : goal.returns-in_default-3
returns-in_default-3 c = sym (kind-other c.args.setup c.args.t.now (λ e. omega arith) (λ l a b d. omega arith))

pub returns-in_default-4 : goal.returns-in_default-4
returns-in_default-4 c = sym (kind-other c.args.setup c.args.t.now (λ e. omega arith) (λ l a b d. omega arith))

pub returns-in_default-5 : goal.returns-in_default-5
returns-in_default-5 c = sym (kind-other c.args.setup c.args.t.now (λ e. omega arith) (λ l a b d. omega arith))

pub returns-in_default-6 : goal.returns-in_default-6
returns-in_default-6 c = sym (kind-other c.args.setup c.args.t.now (λ e. omega arith) (λ l a b d. omega arith))

pub returns-in_default-7 : goal.returns-in_default-7
returns-in_default-7 c = sym (kind-other c.args.setup c.args.t.now (λ e. omega arith) (λ l a b d. omega arith))
