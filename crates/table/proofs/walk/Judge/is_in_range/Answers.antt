-- `table::walk::Judge::is_in_range` meets its contract, by the tests of each arm.
use borrow.Author.Tests.{eq-eqb, ne_eqb, le-leb, lt-leb}
use Rattle.table.specs.Steps.{in_range}
use Rattle.table.proofs.Values.{below_next}
use Rattle.table.proofs.walk.Judge.is_in_range.Goals as goal

pub returns-then-low-n : goal.returns-then-low-n
unfolding in_range
returns-then-low-n c = rw (c.in-Of.is, le-leb _ _ c.if-low-n.true)

pub returns-else-low-n : goal.returns-else-low-n
unfolding in_range
returns-else-low-n c = rw (c.in-Of.is, lt-leb _ _ c.if-low-n.false)

pub returns-then-n-ge1 : goal.returns-then-n-ge1
unfolding in_range
returns-then-n-ge1 c = rw c.in-Written.is (below_next _ _ c.if-n-ge1.true)

pub returns-else-n-ge1 : goal.returns-else-n-ge1
unfolding in_range
returns-else-n-ge1 c = rw (c.in-Written.is, lt-leb _ _ c.if-n-ge1.false)

pub returns-then-n-eq0 : goal.returns-then-n-eq0
unfolding in_range
returns-then-n-eq0 c = rw (c.in-NoneOrFrom.is, eq-eqb _ 0 c.if-n-eq0.true)

pub returns-else-n-eq0 : goal.returns-else-n-eq0
unfolding in_range
returns-else-n-eq0 c = rw (c.in-NoneOrFrom.is, ne_eqb _ 0 c.if-n-eq0.false, ← c.number_at.ensures.value)

pub returns-in-Any : goal.returns-in-Any
unfolding in_range
returns-in-Any c = rw c.in-Any.is
