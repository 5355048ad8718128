-- Nothing is numbered at first, so what the states come to is all that is found.
use Rattle.std.proofs.Common.{Some, None, ◌≡◌, Err, ap, subst}
use Rattle.std.proofs.lemmas.List.Elements.{All-take}
use Rattle.state_parts.specs.declared.target.Target.TheVariants.{Parts}
use Rattle.trie_merge.proofs.place.merge_place.Goals as goal
use Rattle.trie_merge.specs.Cuts.{CanAsk}
use Rattle.trie_merge.specs.Priced.{IsNumber, AreNumbers}
use Rattle.trie_merge.specs.declared.merge.MergeFault.TheVariants.{OverCap}

pub merge_states-requires : goal.merge_states-requires
merge_states-requires c =
    let place = c.in_ok-place.ensures in
    record {
      numbers = rw (c.first_of.ensures.first, c.as_slice.ensures.keys)
          (All-take (λ number. IsNumber (Parts c.parts-parts.result.now) number) c.args.budget.states
          c.args.reached.now.found.keys
          (subst (λ target. AreNumbers target c.args.reached.now.found.keys) c.parts-parts.ensures
          c.requires.states.inside));
      can = record {
        step = λ entry has. rw place.column (c.requires.states.step entry (rw c.parts-parts.ensures has));
        last = place.last;
        go_on = rw (place.column, place.next)
            (c.requires.states.go_on c.parts-parts.result.now c.parts-parts.ensures);
      };
      ask = elim c.in_ok-place.place.next as (λ next. CanAsk next c.in_ok-target.target) [
        | None ↦ tt
        | Some next ↦ λ entry has. absurd (c.in_ok-target.ensures.none entry has)
      ];
      cap = c.requires.cap;
      before = c.requires.before;
    }

pub returns-in-Ok-clause-merged : goal.returns-in-Ok-clause-merged
returns-in-Ok-clause-merged c =
    let place = c.in_ok-place.ensures in
    let kind = rw place.is_last at c.in_ok-target.ensures.kind in
    let its = c.in-Ok.ensures.merged in
    record {
      states = λ pairs is.
          (let same : c.parts-parts.result.now ≡ pairs = cc in
          let each = rw (c.first_of.ensures.first, c.as_slice.ensures.keys, place.column, place.is_last, same) at
          its.each in
          record {
            old = c.in_ok-target.target;
            kind = kind;
            none = c.in_ok-target.ensures.none;
            steps = its.steps;
            led = rw (place.column, same) at its.led;
            each = λ group tree lists. each c.args.rules.now group tree lists kind;
            inside = its.inside;
          });
      pieces = its.pieces;
      next = place.next;
    }

pub returns-in-Err-clause-over : goal.returns-in-Err-clause-over
returns-in-Err-clause-over c = λ over pairs is group tree lists.
    let place = c.in_ok-place.ensures in
    let kind = rw place.is_last at c.in_ok-target.ensures.kind in
    let fault : c.in-Err.fault ≡ OverCap = cc in
    let same : c.parts-parts.result.now ≡ pairs = cc in
    (rw (c.first_of.ensures.first, c.as_slice.ensures.keys, place.column, place.next, place.is_last, same) at
    (c.in-Err.ensures.over (ap Err fault))) c.args.rules.now group tree lists kind
