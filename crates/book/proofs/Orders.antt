-- The day's orders as a list: what the count by value counts.
--     among-end, among-with     an OrderID is among some with one more
--     among-after, among-has     it is among those of the slots exactly where a fill of the order is one of them
--     among-known     so an order is known exactly where its OrderID is among them
--     orders-more     a fill more: the same list, or its OrderID at the end
--     orders-counted     so the count that is kept is its length, with one fill more
--     orders-still     a slot more that is no fill changes nothing
use mathlib.Core.Path.{◌≡◌, refl, sym, ap, ap₂, ◌∙◌}
use mathlib.Core.List.{List, [], ◌∷◌, ◌++◌}
use mathlib.Core.Option.{some}
use mathlib.Core.Bool.{Bool, true, false, cond, ◌&&◌, ◌||◌, not}
use Prim.Native.Nat.{ℕ, ◌+◌}
use lib.ListN.{length, length-append}
use Rattle.octet.specs.Bytes.{same}
use Rattle.octet.specs.Maybe.{find, is_none}
use Rattle.octet.proofs.Lists.{same_true}
use Rattle.fill.specs.Slot.{Slot, is_fill, order_of}
use Rattle.book.specs.Place.{same_order, known_order, orders_with}
use Rattle.book.specs.Orders.{is_among, with_order, orders_after, orders_of, of_order}

or_assoc : (a b c : Bool) → (a || b) || c ≡ a || (b || c)
or_assoc true b c = refl
or_assoc false b c = refl

or-false : (a : Bool) → a || false ≡ a
or-false true = refl
or-false false = refl

or-absorbs : (a b : Bool) → (b ≡ true → a ≡ true) → a ≡ a || b
or-absorbs true b h = refl
or-absorbs false true h = h refl
or-absorbs false false h = refl

pub among-end : (x : List ℕ) (ids : List (List ℕ)) (y : List ℕ) → is_among x (ids ++ (y ∷ [])) ≡ is_among x ids || same x y
among-end x [] y = or-false (same x y)
among-end x (i ∷ ids) y = ap (λ (b : Bool). same x i || b) (among-end x ids y) ∙ sym (or_assoc (same x i) (is_among x ids) (same x y))

-- one slot more: its OrderID, where it is a fill, and those that were there
pub among-with : (x : List ℕ) (ids : List (List ℕ)) (s : Slot) → is_among x (with_order ids s) ≡ is_among x ids || (is_fill s && same x (order_of s))
unfolding with_order
among-with x ids s = by (is_fill s) (is_among (order_of s) ids) refl
  where
    by : (fill there : Bool) → is_among (order_of s) ids ≡ there
        → is_among x (cond (fill && not there) (ids ++ (order_of s ∷ [])) ids) ≡ is_among x ids || (fill && same x (order_of s))
    by false there e = sym (or-false (is_among x ids))
    by true false e = among-end x ids (order_of s)
    by true true e = or-absorbs (is_among x ids) (same x (order_of s)) (λ h. ap (λ (y : List ℕ). is_among y ids) (same_true x (order_of s) h) ∙ e)

-- whether an order has a fill among the slots
abbrev has_order : List Slot → List ℕ → Bool
has_order ss id = not (is_none (find (of_order id) ss))

has-cons : (id : List ℕ) (s : Slot) (ss : List Slot) → has_order (s ∷ ss) id ≡ of_order id s || has_order ss id
has-cons id s ss = by (of_order id s)
  where
    by : (b : Bool) → not (is_none (cond b (some s) (find (of_order id) ss))) ≡ b || has_order ss id
    by true = refl
    by false = refl

pub among-after : (ids : List (List ℕ)) (ss : List Slot) (id : List ℕ) → is_among id (orders_after ids ss) ≡ is_among id ids || not (is_none (find (of_order id) ss))
unfolding orders_after
among-after ids [] id = sym (or-false (is_among id ids))
among-after ids (s ∷ ss) id =
    among-after (with_order ids s) ss id
    ∙ ap (λ (b : Bool). b || has_order ss id) (among-with id ids s)
    ∙ or_assoc (is_among id ids) (of_order id s) (has_order ss id)
    ∙ ap (λ (b : Bool). is_among id ids || b) (sym (has-cons id s ss))

pub among-has : (ss : List Slot) (id : List ℕ) → is_among id (orders_of ss) ≡ not (is_none (find (of_order id) ss))
among-has ss id = among-after [] ss id

pub among-known : (ss : List Slot) (f : Slot) → is_among (order_of f) (orders_of ss) ≡ known_order ss f
unfolding known_order same_order
among-known ss f = among-has ss (order_of f)

-- ---- a slot more
after-end : (ids : List (List ℕ)) (ss : List Slot) (s : Slot) → orders_after ids (ss ++ (s ∷ [])) ≡ with_order (orders_after ids ss) s
unfolding orders_after
after-end ids [] s = refl
after-end ids (x ∷ ss) s = after-end (with_order ids x) ss s

pub orders-more : (ss : List Slot) (f : Slot) → is_fill f ≡ true → orders_of (ss ++ (f ∷ [])) ≡ cond (known_order ss f) (orders_of ss) (orders_of ss ++ (order_of f ∷ []))
unfolding with_order
orders-more ss f e =
    after-end [] ss f
    ∙ ap₂ (λ (a b : Bool). cond (a && not b) (orders_of ss ++ (order_of f ∷ [])) (orders_of ss)) e (among-known ss f)
    ∙ turned (known_order ss f)
  where
    turned : (b : Bool) → cond (not b) (orders_of ss ++ (order_of f ∷ [])) (orders_of ss) ≡ cond b (orders_of ss) (orders_of ss ++ (order_of f ∷ []))
    turned true = refl
    turned false = refl

pub orders-still : (ss : List Slot) (s : Slot) → is_fill s ≡ false → orders_of (ss ++ (s ∷ [])) ≡ orders_of ss
unfolding with_order
orders-still ss s h =
    after-end [] ss s ∙ ap (λ (b : Bool). cond (b && not (is_among (order_of s) (orders_of ss))) (orders_of ss ++ (order_of s ∷ [])) (orders_of ss)) h

pub orders-counted : (ss : List Slot) (f : Slot) → is_fill f ≡ true → orders_with (known_order ss f) (length (orders_of ss)) ≡ length (orders_of (ss ++ (f ∷ [])))
orders-counted ss f e = by (known_order ss f) ∙ sym (ap length (orders-more ss f e))
  where
    by : (b : Bool) → cond b (length (orders_of ss)) (length (orders_of ss) + 1) ≡ length (cond b (orders_of ss) (orders_of ss ++ (order_of f ∷ [])))
    by true = refl
    by false = sym (length-append (orders_of ss) (order_of f ∷ []))
