-- A script that is written out is a value of the code's type: one test over its nodes.
-- Assumes nothing.
use Rattle.std.specs.Prelude.{◌≡◌, Bool, true, ◌&&◌, eqb, ltb, length}
use Rattle.std.proofs.Common.{eqb-true, ltb-true}
use Rattle.laws.specs.Choice.{and_left, and_right}
use Rattle.laws.specs.Checks.{all, all_at}
use Rattle.names.specs.Names.{node_count}
use Rattle.images.specs.Script.{action_at, field_at}
use Rattle.images.specs.Shape.{ShapedScript}
use Rattle.images.specs.declared.Action.{Action}
use Rattle.images.specs.declared.Script.{Script}

-- four fields, with numbers of 32 bits
abbrev pub is_whole : Action → Bool
is_whole a = eqb (length a.fields) 4 && all 4 (λ j. ltb (field_at a j).number 4294967296)

pub shaped_script : (s : Script) → length s.nodes ≡ node_count → all node_count (λ i. is_whole (action_at s i)) ≡ true → ShapedScript s
shaped_script s e h =
    record {
      nodes = e;
      at =
          λ i l.
          let a = action_at s i in
          let w = all_at node_count (λ i. is_whole (action_at s i)) h i l in
          record {
            fields = eqb-true (length a.fields) 4 (and_left (eqb (length a.fields) 4) _ w);
            numbers =
                λ j q.
                ltb-true (field_at a j).number 4294967296
                (all_at 4 (λ j. ltb (field_at a j).number 4294967296) (and_right (eqb (length a.fields) 4) _ w) j q);
          };
    }
