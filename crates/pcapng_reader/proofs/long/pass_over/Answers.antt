-- Each turn reads a piece, and then the last four bytes follow.
use Rattle.std.proofs.Common.{◌≡◌, ℕ, List, ◌-◌, [], ◌++◌, length, sym, subst, ap, ◌∙◌}
use Rattle.std.proofs.Common.{append_assoc, append-nil, length-append, arith}
use Rattle.std.proofs.lemmas.List.{drop_at}
use Rattle.acl_outside.specs.Heard.{GoesOn}
use Rattle.pcap_reader.specs.Headers.{number_in}
use Rattle.pcapng_reader.specs.BlockReading.{EndIn, HasRead}
use Rattle.pcapng_reader.proofs.ReadLaws.{ReadsMore-later}
use Rattle.pcapng_reader.proofs.long.pass_over.Goals as goal

pub pieces-init : goal.pieces-init
pieces-init g c = record {
  within = omega arith;
  passes = λ state part before read. record {
    more = [];
    len = omega arith;
    read = subst (λ l. HasRead state l GoesOn before (g.D.Desk.view c.args.desk.now)) (sym (append-nil part)) read;
  };
  reading = c.requires.reading;
}

pub pieces-preserved : goal.pieces-preserved
pieces-preserved g c = record {
  within = omega (arith, c.pieces.invariant.within);
  passes = λ state part before read.
      (let passed = c.pieces.invariant.passes state part before read in
      let piece = c.in-Ok.ensures.more state (part ++ passed.more) before passed.read in
      record {
        more = passed.more ++ piece.0;
        len = omega (
          arith,
          passed.len,
          piece.1,
          c.pieces.invariant.within,
          c.min-len.ensures,
          length-append passed.more piece.0,
        );
        read = subst (λ l. HasRead state l GoesOn before (g.D.Desk.view c.pass_piece.new.desk))
            (append_assoc part passed.more piece.0) piece.2;
      });
  reading = rw c.in-Ok.ensures.reading c.pieces.invariant.reading;
}

pub returns-in-Err : goal.returns-in-Err
returns-in-Err g c = record {
  more = λ state part before read.
      (let passed = c.pieces.invariant.passes state part before read in
      ReadsMore-later state part c.args.number before (g.D.Desk.view c.pass_piece.new.desk)
      (λ (end : ℕ) (more : List ℕ). EndIn c.args.order c.args.count end more)
      (λ (done : Unit {0}) (more : List ℕ). length more ≡ c.min-len.result) c.in-Err.fault passed.more _ c.args.count
      (omega (arith, passed.len, c.min-len.ensures, c.pieces.invariant.within))
      (c.in-Err.ensures.more state (part ++ passed.more) before passed.read));
}

pub returns-in-Ok-fill_part : goal.returns-in-Ok-fill_part
returns-in-Ok-fill_part g c = record {
  more = λ state part before read.
      (let passed = c.pieces.invariant.passes state part before read in
      let piece = c.in-Ok-fill_part.ensures.more state (part ++ passed.more) before passed.read in
      let len : length passed.more ≡ c.args.count - 4 = omega (arith, passed.len, c.pieces-test.false) in (
        passed.more ++ piece.0,
        record {
          len = omega (
            arith,
            len,
            ap length piece.1,
            c.fill_part.auto.into,
            c.requires.some,
            length-append passed.more piece.0,
          );
          number =
              ap (λ l. number_in c.args.order l 0 4) (drop_at passed.more piece.0 (c.args.count - 4) len)
              ∙ ap (λ l. number_in c.args.order l 0 4) piece.1 ∙ sym c.u32_in.ensures;
        },
        subst (λ l. HasRead state l GoesOn before (g.D.Desk.view c.fill_part.new.desk))
            (append_assoc part passed.more piece.0) piece.2,
      ));
}

pub returns-in-Err-fill_part : goal.returns-in-Err-fill_part
returns-in-Err-fill_part g c = record {
  more = λ state part before read.
      (let passed = c.pieces.invariant.passes state part before read in
      ReadsMore-later state part c.args.number before (g.D.Desk.view c.fill_part.new.desk)
      (λ (end : ℕ) (more : List ℕ). EndIn c.args.order c.args.count end more)
      (λ (done : Unit {0}) (more : List ℕ). more ≡ c.fill_part.new.into) c.in-Err-fill_part.fault passed.more _
      c.args.count
      (omega (arith, passed.len, c.requires.some))
      (c.in-Err-fill_part.ensures.more state (part ++ passed.more) before passed.read));
}
