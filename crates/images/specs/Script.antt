-- The script image: the bytes of a script, and which scripts are in range. Document 01, "Script, 2,064 bytes".
-- Assumes nothing.
use Rattle.std.specs.Prelude.{ℕ, List, [], ◌∷◌, ◌++◌, Bool, true, false, ◌&&◌, not, eqb, ltb, leb, get_or}
use Rattle.laws.specs.Choice.{pick}
use Rattle.laws.specs.Lists.{tab}
use Rattle.laws.specs.Checks.{all}
use Rattle.laws.specs.Parts.{flat}
use Rattle.names.specs.Names.{node_count, reference_count, none, below_or_none, node, reference}
use Rattle.images.specs.Head.{head_bytes, pair_bytes}
use Rattle.images.specs.declared.Field.{Field}
use Rattle.images.specs.declared.Action.{Action}
use Rattle.images.specs.declared.Script.{Script}
use Rattle.images.specs.declared.TargetUse.{TargetUse}
use Rattle.images.specs.declared.ReferenceUse.{ReferenceUse}
use Rattle.images.specs.declared.Row.{Row}

-- ---- how many kinds of node there are, and how many fields a node may have
abbrev pub kind_count : ℕ
kind_count = 8

abbrev pub field_count : ℕ
field_count = 4

-- ---- what stands where nothing does: zeros, and empty arrays
abbrev pub field0 : Field
field0 = record { tag = 0; number = 0 }

abbrev pub action0 : Action
action0 =
    record { kind = 0; next = node 0; other = node 0; target = field0; reference = reference 0; count = 0; fields = [] }

abbrev pub field_at : Action → ℕ → Field
field_at a j = get_or a.fields j field0

abbrev pub action_at : Script → ℕ → Action
action_at s i = get_or s.nodes i action0

-- ---- the bytes of a script
-- "Node: 0 kind; 1 next; 2 other node; 3 target tag; 4 target; 5 reference or 255; 6 field count; 8..11 field tags; 12..27 four
-- 32-bit field numbers."
abbrev pub first_bytes : Action → List ℕ
first_bytes a =
    a.kind ∷ a.next.0 ∷ a.other.0 ∷ a.target.tag ∷ a.target.number ∷ a.reference.0 ∷ a.count ∷ 0 ∷ []

unfoldable pub action_bytes : Action → List ℕ
action_bytes a =
    first_bytes a ++
    (pair_bytes field_count (λ j. (field_at a j).tag) (λ j. (field_at a j).number) ++ (0 ∷ 0 ∷ 0 ∷ 0 ∷ []))

-- "Bytes 0..2 'RTS', 4..5 version 1, then 64 nodes of 32 bytes from 16."
unfoldable pub script_bytes : Script → List ℕ
script_bytes s = head_bytes 83 0 ++ flat (tab node_count (λ i. action_bytes (action_at s i)))

-- ---- which scripts are in range
-- "A table of eight rows says which places each kind uses." A row: whether next and other are used; how the target is; how the
-- reference is; the highest field tag, 0 where there are no fields.
abbrev pub row : Bool → Bool → TargetUse → ReferenceUse → ℕ → Row
row n o t r f = record { next = n; other = o; target = t; reference = r; fields = f }

abbrev pub no_row : Row
no_row = row false false TargetUse.Unused ReferenceUse.Unused 0

abbrev pub rows : List Row
rows =
    -- nil
    row false false TargetUse.Unused ReferenceUse.Unused 0 ∷
    -- out
    row true false TargetUse.Given ReferenceUse.Optional 3 ∷
    -- in
    row true false TargetUse.Given ReferenceUse.Optional 5 ∷
    -- read
    row true false TargetUse.Given ReferenceUse.Optional 5 ∷
    -- newloc
    row true false TargetUse.Bound ReferenceUse.Optional 0 ∷
    -- eval
    row true true TargetUse.Given ReferenceUse.Optional 0 ∷
    -- split
    row true true TargetUse.Unused ReferenceUse.Unused 0 ∷
    -- roll
    row false false TargetUse.Unused ReferenceUse.Needed 0 ∷ []

abbrev pub row_of : ℕ → Row
row_of k = get_or rows k no_row

-- "A place not used is 0."
unfoldable pub node_in_place : Bool → ℕ → Bool
node_in_place used n = pick used (ltb n node_count) (eqb n 0)

-- "target tag (2 literal locality, 3 variable)"; "A literal locality is 0..7", and so is a variable. A target that the node binds is a
-- variable
unfoldable pub target_in_place : TargetUse → Field → Bool
target_in_place TargetUse.Unused f = eqb f.tag 0 && eqb f.number 0
target_in_place TargetUse.Given f = leb 2 f.tag && (leb f.tag 3 && ltb f.number 8)
target_in_place TargetUse.Bound f = eqb f.tag 3 && ltb f.number 8

-- "The reference may be 255 except in roll"; not used, it is 255
unfoldable pub reference_in_place : ReferenceUse → ℕ → Bool
reference_in_place ReferenceUse.Unused r = eqb r none
reference_in_place ReferenceUse.Optional r = below_or_none reference_count r
reference_in_place ReferenceUse.Needed r = ltb r reference_count

-- "Field tags: 1 value, 2 literal locality, 3 variable; in and read also 4 formal for a value, 5 formal for a locality."
unfoldable pub field_in_range : ℕ → Field → Bool
field_in_range top f = leb 1 f.tag && (leb f.tag top && pick (eqb f.tag 1) true (ltb f.number 8))

abbrev pub is_blank : Field → Bool
is_blank f = eqb f.tag 0 && eqb f.number 0

-- "1..4 fields"; "Fields past the count are 0."
unfoldable pub count_in_place : ℕ → ℕ → Bool
count_in_place top c = pick (eqb top 0) (eqb c 0) (leb 1 c && leb c field_count)

unfoldable pub field_in_place : ℕ → ℕ → ℕ → Field → Bool
field_in_place top count j f = pick (ltb j count) (field_in_range top f) (is_blank f)

unfoldable pub fields_in_place : ℕ → ℕ → List Field → Bool
fields_in_place top count fs = all field_count (λ j. field_in_place top count j (get_or fs j field0))

-- "Formals of one template name distinct variables."
unfoldable pub same_formal : Field → Field → Bool
same_formal f g = leb 4 f.tag && (leb 4 g.tag && eqb f.number g.number)

unfoldable pub fresh_formal : List Field → ℕ → Bool
fresh_formal fs j = all j (λ i. not (same_formal (get_or fs i field0) (get_or fs j field0)))

unfoldable pub formals_distinct : List Field → Bool
formals_distinct fs = all field_count (fresh_formal fs)

-- a node whose places are as its row says
unfoldable pub places_in_row : Row → Action → Bool
places_in_row r a =
    node_in_place r.next a.next.0 &&
    (node_in_place r.other a.other.0 &&
    (target_in_place r.target a.target && reference_in_place r.reference a.reference.0))

unfoldable pub fields_in_row : Row → Action → Bool
fields_in_row r a =
    count_in_place r.fields a.count && (fields_in_place r.fields a.count a.fields && formals_distinct a.fields)

unfoldable pub action_in_range : Action → Bool
action_in_range a = ltb a.kind kind_count && (places_in_row (row_of a.kind) a && fields_in_row (row_of a.kind) a)

unfoldable pub script_in_range : Script → Bool
script_in_range s = all node_count (λ i. action_in_range (action_at s i))
