use Rattle.std.proofs.Common.{rules, sym, ◌∙◌}
use Rattle.acl_outside.proofs.FileLaws.{Creates-made}
use Rattle.acl_outside.specs.MemFile.{files_of, hand_of}
use Rattle.acl_outside.proofs.mem_desk.MemDeskDesk.create_file.Goals as goal

pub returns-clause-creates : goal.returns-clause-creates
returns-clause-creates c =
    let inside = c.self.inside in
    record {
      created =
          rw (c.create.ensures, ← c.self.view_is)
          (Creates-made inside.made (files_of inside.files.items) c.args.name.now
          (hand_of inside.files.items inside.made inside.in_hand inside.at)
          (sym c.takes_name.ensures ∙ c.if-not-takes_name.false));
      given_up = search rules;
      reading = search rules;
      writing = search rules;
      answer = search rules;
      cause = search rules;
      read_faults = search rules;
      absent = search rules;
      counts = search rules;
    }
