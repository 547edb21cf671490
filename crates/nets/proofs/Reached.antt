-- The accepted nets are those that forward steps reach from accepted nets with no past process. Document 01, "Which nets are accepted"
-- (004, Definition 1).
--
-- In order, of `Reached` in specs/: steps in a row, in the words of `order` and back (`forwards_there`, `forwards_back`); the law (`accepted_iff`).
-- Assumes nothing.
use Rattle.std.specs.Prelude.{◌↔◌}
use Rattle.order.specs.Replay.{Redoing}
use Rattle.order.specs.Replay as P
use Rattle.nets.specs.Rules.{Rules, Lawful}
use Rattle.nets.specs.Net.{Net}
use Rattle.nets.specs.Forward.{Forward, Forwards, start, more}
use Rattle.nets.specs.Accepted.{Accepted}
use Rattle.nets.specs.Reached.{Reached}
use Rattle.nets.proofs.Onward.{forward_accepted}
use Rattle.nets.proofs.Loops.{redo}
use Rattle.nets.proofs.Rollback.{undoing}

module _ {R : Rules} (lawful : Lawful R) where
  abbrev pub redoing : Redoing R.keys (undoing lawful)
  redoing =
      record {
        Forward = Forward;
        forward_accepted = λ n m ok s. rw s.ends (forward_accepted lawful n ok s.request s.can);
        redo = λ n x ok u. redo lawful n ok x u;
      }

module _ {R : Rules} (lawful : Lawful R) where
  forwards_there : {n m : Net R} → Forwards n m → P.Forwards R.keys (undoing lawful) (redoing lawful) n m
  forwards_there start = P.start
  forwards_there (more r s) = P.more (forwards_there r) s

  forwards_back : {n m : Net R} → P.Forwards R.keys (undoing lawful) (redoing lawful) n m → Forwards n m
  forwards_back P.start = start
  forwards_back (P.more r s) = more (forwards_back r) s

  pub accepted_iff : (n : Net R) → Accepted n ↔ Reached n
  accepted_iff n = (
    λ ok.
        let o = (P.accepted_iff R.keys (undoing lawful) (redoing lawful) n).0 ok in
        record { from = o.from; accepted = o.accepted; no_past = o.no_past; steps = forwards_back o.forwards },
    λ r.
        (P.accepted_iff R.keys (undoing lawful) (redoing lawful) n).1
        (record { from = r.from; accepted = r.accepted; no_past = r.no_past; forwards = forwards_there r.steps }),
  )
