-- Slots in range and shaped, from the records that they hold and back.
-- In order: a free slot, a live and a past process, a live and a consumed tuple (`free_in_range_lem`, `live_in_range`, `past_in_range`,
-- `tuple_in_range_lem`, `consumed_in_range`); the record of a slot in range (`live_process_lem`, `past_process`, `live_tuple_lem`, `consumed_tuple`), and a
-- process's node (`process_node`); shapes (`Words`, `free_shaped`, `record_shaped`, `shaped_whole`, `same_shaped`, `past_shaped`).
-- Assumes nothing.
use Rattle.std.specs.Prelude.{ℕ, ◌<◌, ◌≡◌, true, false, List, eqb, ltb, leb, get_or}
use Rattle.std.proofs.Math.Path.{refl}
use Rattle.std.proofs.Common.{ap, sym, ◌∙◌, subst, arith, eqb-true}
use Rattle.std.proofs.lemmas.List.{get_or-replicate}
use Rattle.laws.specs.Choice.{and_left, and_right, and_both}
use Rattle.laws.specs.Checks.{all}
use Rattle.names.specs.Names.{key_count, none, below_or_none, is_locality, is_node}
use Rattle.images.specs.Net.{datum0, free_slot, is_unset, field_or_blank, data_fill, made_are, refs_are, made_in_range, free_in_range, process_in_range, tuple_in_range, slot_in_range}
use Rattle.images.specs.Shape.{Word, ShapedSlot}
use Rattle.images.specs.declared.Datum.{Datum}
use Rattle.images.specs.declared.Slot.{Slot}
use Rattle.products.specs.Body.{Body, body_of, fresh, live_process, live_tuple, is_process, is_tuple}
use Rattle.agreement.specs.Agreed.{Whole}
use Rattle.requests.specs.Answers.{in_range}
use Rattle.requests.specs.Requests.{asked}
use Rattle.requests.specs.declared.Request.{Request}
use Rattle.step.specs.Forward.{past_slot}

-- ---- slots in range, from what they hold

pub free_in_range_lem : slot_in_range free_slot ≡ true
unfolding slot_in_range free_in_range made_are refs_are data_fill field_or_blank is_unset all
free_in_range_lem = refl

module _ (b : Body) where
  pub live_in_range : is_process b ≡ true → slot_in_range (live_process b) ≡ true
  unfolding slot_in_range made_are
  live_in_range h = h

  pub tuple_in_range_lem : is_tuple b ≡ true → slot_in_range (live_tuple b) ≡ true
  unfolding slot_in_range
  tuple_in_range_lem h = h

  pub consumed_in_range : is_tuple b ≡ true → slot_in_range (fresh 4 b) ≡ true
  unfolding slot_in_range tuple_in_range made_are
  consumed_in_range h = h

-- the places of a request in range are those of an event in range
places_in_range : (x : Slot) (r : Request) → in_range (asked r) ≡ true → made_in_range (past_slot x r) ≡ true
unfolding in_range made_in_range
places_in_range x r h =
    let h₁ = and_right (ltb r.key.0 key_count) _ (and_right (leb r.code 3) _ h) in
    let h₂ = and_right (below_or_none key_count r.used.0) _ h₁ in
    let h₃ = and_right (below_or_none key_count r.first.0) _ h₂ in
    and_both (below_or_none key_count r.first.0) _ (and_left (below_or_none key_count r.first.0) _ h₂)
    (and_both (below_or_none key_count r.second.0) _ (and_left (below_or_none key_count r.second.0) _ h₃)
    (and_both (below_or_none key_count r.used.0) _ (and_left (below_or_none key_count r.used.0) _ h₁)
    (and_right (below_or_none key_count r.second.0) _ h₃)))

pub past_in_range : (x : Slot) (r : Request) → in_range (asked r) ≡ true → is_process (body_of x) ≡ true → slot_in_range (past_slot x r) ≡ true
unfolding slot_in_range process_in_range
past_in_range x r h p = and_both (made_in_range (past_slot x r)) _ (places_in_range x r h) p

-- ---- what a slot in range holds

-- a record as it is made holds nothing
fresh_made : (k : ℕ) (b : Body) → made_are none (fresh k b) ≡ true
unfolding made_are
fresh_made k b = refl

-- a tuple in range holds nothing either, so it is its record
tuple_record : (x : Slot) → tuple_in_range x ≡ true → is_tuple (body_of x) ≡ true
unfolding tuple_in_range
tuple_record x h =
    let h₁ = and_right (is_locality x.locality) _ h in
    let h₂ = and_right (eqb x.node.0 0) _ h₁ in
    let h₃ = and_right (leb 1 x.count) _ h₂ in
    let h₄ = and_right (leb x.count 4) _ h₃ in
    let made : made_are none x ≡ true = and_left (made_are none x) _ h₄ in
    rw (fresh_made 3 (body_of x)) (rw made at h)

module _ (x : Slot) (h : slot_in_range x ≡ true) where
  -- a kind is no other
  not_kind : (k m : ℕ) → eqb k m ≡ false → eqb x.kind k ≡ true → eqb x.kind m ≡ false
  not_kind k m d e = ap (λ (i : ℕ). eqb i m) (eqb-true x.kind k e) ∙ d

  pub live_process_lem : eqb x.kind 1 ≡ true → is_process (body_of x) ≡ true
  unfolding slot_in_range process_in_range
  live_process_lem e = and_right (made_are none x) _ (rw (not_kind 1 0 refl e, e) at h)

  pub past_process : eqb x.kind 2 ≡ true → is_process (body_of x) ≡ true
  unfolding slot_in_range process_in_range
  past_process e = and_right (made_in_range x) _ (rw (not_kind 2 0 refl e, not_kind 2 1 refl e, e) at h)

  -- a tuple's record, of either kind
  tuple_held : eqb x.kind 0 ≡ false → eqb x.kind 1 ≡ false → eqb x.kind 2 ≡ false → is_tuple (body_of x) ≡ true
  unfolding slot_in_range
  tuple_held n0 n1 n2 = tuple_record x (and_right (leb x.kind 4) _ (rw (n0, n1, n2) at h))

  pub live_tuple_lem : eqb x.kind 3 ≡ true → is_tuple (body_of x) ≡ true
  live_tuple_lem e = tuple_held (not_kind 3 0 refl e) (not_kind 3 1 refl e) (not_kind 3 2 refl e)

  pub consumed_tuple : eqb x.kind 4 ≡ true → is_tuple (body_of x) ≡ true
  consumed_tuple e = tuple_held (not_kind 4 0 refl e) (not_kind 4 1 refl e) (not_kind 4 2 refl e)

-- a process in range is at a node
pub process_node : (b : Body) → is_process b ≡ true → is_node b.node ≡ true
unfolding process_in_range
process_node b h = and_left (is_node b.node) _ (and_right (is_locality b.locality) _ h)

-- ---- shapes

-- every number is one of 32 bits
abbrev pub Words : List Datum → Type 0
Words ds = (j : ℕ) → j < 8 → Word (get_or ds j datum0).number

pub free_shaped : ShapedSlot free_slot
free_shaped =
    record {
      contents = refl;
      refs = refl;
      numbers = λ j h. subst (λ (d : Datum). Word d.number) (sym (get_or-replicate 8 j datum0 datum0 h)) (omega arith);
    }

-- a slot is shaped as its record is
pub record_shaped : (k : ℕ) (b : Body) → Whole b → Words b.contents → ShapedSlot (fresh k b)
record_shaped k b w h = record { contents = w.0; refs = w.1; numbers = h }

pub shaped_whole : (x : Slot) → ShapedSlot x → Whole (body_of x)
shaped_whole x w = (w.contents, w.refs)

pub same_shaped : (k : ℕ) (x : Slot) → ShapedSlot x → ShapedSlot (fresh k (body_of x))
same_shaped k x w = record { contents = w.contents; refs = w.refs; numbers = w.numbers }

pub past_shaped : (x : Slot) (r : Request) → ShapedSlot x → ShapedSlot (past_slot x r)
past_shaped x r w = record { contents = w.contents; refs = w.refs; numbers = w.numbers }
