use Rattle.std.proofs.Common.{◌≡◌, ◌+◌, inl, inr, sym, ap, ◌∙◌, rules}
use Rattle.std.specs.Prelude.{is_some}
use Rattle.std.proofs.lemmas.Option.{same_Some}
use Rattle.acl_outside.specs.MemFile.{hand_of}
use Rattle.acl_outside.specs.Memory.{left_in}
use Rattle.acl_outside.proofs.FileLaws.{Gives-left, opened_in-later, created_in-later, read_nothing}
use Rattle.acl_outside.proofs.mem_desk.MemDeskDesk.read.Goals as goal

pub returns-clause-reads : goal.returns-clause-reads
returns-clause-reads c =
    let inside = c.self.inside in
    let left = left_in (hand_of inside.files.items inside.made inside.in_hand inside.at) in
    let later = inside.at + c.move_prefix-count.result in
    let moved = rw (c.left_of-left.ensures.left, c.deref-2.ensures.value) at c.move_prefix-count.ensures.moved in
    record {
      within = search rules;
      given =
          rw (
            c.move_prefix-count.ensures.prefix,
            c.left_of-left.ensures.left,
            c.deref-2.ensures.value,
            ← c.self.view_is,
          )
          (Gives-left _ inside.files.items inside.made inside.in_hand inside.at c.move_prefix-count.result);
      end = λ e.
          let none : c.move_prefix-count.result ≡ 0 = cc in
          rw (← c.self.view_is)
          (elim (read_nothing inside.piece c.args.into.now left c.self.invariant.1 (sym moved ∙ none)) [
            | inl empty ↦ inl empty
            | inr ended ↦ inr (λ content is. sym (ap (λ told. told.left) (same_Some _ content is)) ∙ ended)
          ]);
      empty = search rules;
      lost_nothing = tt;
      reading = rw (← c.self.view_is)
          (ap is_some (opened_in-later inside.files.items inside.made inside.in_hand inside.at later));
      writing = rw (← c.self.view_is)
          (ap is_some
          (created_in-later inside.files.items inside.made inside.in_hand inside.at later inside.made.name));
      answer = search rules;
      cause = tt;
      absent = search rules;
      write_faults = search rules;
      counts = search rules;
    }
