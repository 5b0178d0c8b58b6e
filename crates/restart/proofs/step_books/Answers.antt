-- `restart::step_books` meets its contract: a lawful F or C note books its slot after the last one.
use mathlib.Core.Path.{refl, sym, ap, ◌∙◌}
use native.Mathlib.Omega.{arith}
use Rattle.book.specs.Memory.{slots_in, rows_in}
use Rattle.book.specs.Place.{is_new}
use Rattle.book.specs.declared.Booking.{Booking}
use Rattle.book.proofs.Placing.{admitted-clash, admitted-already, admitted-full, admitted-new}
use Rattle.note.specs.Notes.{Books}
use Rattle.restart.specs.Steps.{kept_in}
use Rattle.restart.specs.Restart.{load_in}
use Rattle.restart.proofs.Stepping.{admits, bookable-by, books-out, books-next, books-no, step-yes, on-books, mem-yes, last-few, load_fits}
use Rattle.restart.proofs.step_books.Goals.{then-not-is_next-via-then-not-is_next, then-not-is_next-via-else-not-is_next+then-not-is_lawful}
use Rattle.restart.proofs.step_books.Goals as goal

-- not the next, or not a lawful slot
pub returns-then-not-is_next : goal.returns-then-not-is_next
returns-then-not-is_next c =
    let a = c.args in
    let m = a.mem.now in
    let s = a.slot.now in
    elim c.then-not-is_next.branch [
      | then-not-is_next-via-then-not-is_next w ↦ books-no m (kept_in a.m m) a.e a.o s (books-out a.m m a.e a.o s (sym c.is_next.ensures ∙ w.if-not-is_next.true))
      | then-not-is_next-via-else-not-is_next+then-not-is_lawful w ↦
          (let is = sym c.is_next.ensures ∙ w.if-not-is_next.false in
          let isnt = sym w.is_lawful.ensures ∙ w.if-not-is_lawful.true in
          books-no m (kept_in a.m m) a.e a.o s (books-next a.m m a.e a.o s is (bookable-by (slots_in a.m.last m) (rows_in a.m.orders m) (load_in a.m) s isnt refl refl)))
    ]

-- new: there is a number for it
pub overflow_add-result : goal.overflow_add-result
overflow_add-result c =
    let a = c.args in
    let m = a.mem.now in
    let s = a.slot.now in
    let ss = slots_in a.m.last m in
    let next = sym c.is_next.ensures ∙ c.if-not-is_next.false in
    let good = sym c.is_lawful.ensures ∙ c.if-not-is_lawful.false in
    let r = admits a.m m s _ _ _ refl c.load_in.ensures c.admit.ensures in
    let b = admitted-new ss (rows_in a.m.orders m) (load_in a.m) s (r ∙ c.in-New.is) in
    let t = books-next a.m m a.e a.o s next (bookable-by ss (rows_in a.m.orders m) (load_in a.m) s good (ap is_new b.0) b.1) in
    omega (arith, last-few a.m m a.e a.o s t)

-- at odds with a slot
pub returns-in-Clash : goal.returns-in-Clash
returns-in-Clash c =
    let a = c.args in
    let m = a.mem.now in
    let s = a.slot.now in
    let ss = slots_in a.m.last m in
    let next = sym c.is_next.ensures ∙ c.if-not-is_next.false in
    let good = sym c.is_lawful.ensures ∙ c.if-not-is_lawful.false in
    let r = admits a.m m s _ _ _ refl c.load_in.ensures c.admit.ensures in
    let f = admitted-clash ss (rows_in a.m.orders m) (load_in a.m) s (r ∙ c.in-Clash.is) in
    let t = books-next a.m m a.e a.o s next (bookable-by ss (rows_in a.m.orders m) (load_in a.m) s good (ap is_new f) refl) in
    books-no m (kept_in a.m m) a.e a.o s t

-- already booked
pub returns-in-Already : goal.returns-in-Already
returns-in-Already c =
    let a = c.args in
    let m = a.mem.now in
    let s = a.slot.now in
    let ss = slots_in a.m.last m in
    let next = sym c.is_next.ensures ∙ c.if-not-is_next.false in
    let good = sym c.is_lawful.ensures ∙ c.if-not-is_lawful.false in
    let r = admits a.m m s _ _ _ refl c.load_in.ensures c.admit.ensures in
    let f = admitted-already ss (rows_in a.m.orders m) (load_in a.m) s (r ∙ c.in-Already.is) in
    let t = books-next a.m m a.e a.o s next (bookable-by ss (rows_in a.m.orders m) (load_in a.m) s good (ap is_new f) refl) in
    books-no m (kept_in a.m m) a.e a.o s t

-- no room
pub returns-in-Full : goal.returns-in-Full
returns-in-Full c =
    let a = c.args in
    let m = a.mem.now in
    let s = a.slot.now in
    let ss = slots_in a.m.last m in
    let next = sym c.is_next.ensures ∙ c.if-not-is_next.false in
    let good = sym c.is_lawful.ensures ∙ c.if-not-is_lawful.false in
    let r = admits a.m m s _ _ _ refl c.load_in.ensures c.admit.ensures in
    let f = admitted-full ss (rows_in a.m.orders m) (load_in a.m) s (r ∙ c.in-Full.is) in
    let t = books-next a.m m a.e a.o s next (bookable-by ss (rows_in a.m.orders m) (load_in a.m) s good (ap is_new f.0) f.1) in
    books-no m (kept_in a.m m) a.e a.o s t

-- new
pub returns-in-New : goal.returns-in-New
returns-in-New c =
    let a = c.args in
    let m = a.mem.now in
    let s = a.slot.now in
    let ss = slots_in a.m.last m in
    let next = sym c.is_next.ensures ∙ c.if-not-is_next.false in
    let good = sym c.is_lawful.ensures ∙ c.if-not-is_lawful.false in
    let r = admits a.m m s _ _ _ refl c.load_in.ensures c.admit.ensures in
    let b = admitted-new ss (rows_in a.m.orders m) (load_in a.m) s (r ∙ c.in-New.is) in
    let t = books-next a.m m a.e a.o s next (bookable-by ss (rows_in a.m.orders m) (load_in a.m) s good (ap is_new b.0) b.1) in
    let given = c.well_formed.1.0 in
    let load = ap (λ (k : Booking). k.load) b.2 ∙ load_fits a.m m a.e a.o s t (omega (arith, given)) (omega (arith, given)) (omega (arith, given)) in (
      step-yes (kept_in a.m m) (Books a.e a.o s) _ t (on-books a.m m a.e a.o _ _ s load c.day_with.ensures),
      mem-yes a.m m a.e a.o s t _ _ _ _ refl refl (ap (λ (k : Booking). k.row) b.2) c.enter.ensures,
    )
