-- What the value of a text says, and what is told of a text without one.
use Rattle.std.proofs.Common.{◌≡◌, ◌∙◌, ap, sym, subst, Err, IfErr, IfOk, Ok}
use Rattle.nft_reader.specs.Ruleset.{question}
use Rattle.nft_reader.specs.Ruleset.{chains_of_document, chains_of_text}
use Rattle.nft_reader.specs.Stops.{IsToldOf}
use Rattle.nft_reader.proofs.Texts.{no_text, text_is}
use Rattle.nft_reader.proofs.ruleset.read_text.Goals as goal

pub returns-in-Ok-clause-chains : goal.returns-in-Ok-clause-chains
returns-in-Ok-clause-chains c =
    let asked = question c.args.asked c.args.assumed.now in
    let whole = text_is c.args.name.now asked c.args.bytes.now c.in-Ok.ensures.ok.0
    ∙ ap (chains_of_document c.args.name.now asked) c.in-Ok.ensures.ok.1 in
    subst (λ said. IfOk c.read_value.result (λ chains. said ≡ Ok chains.items)) (sym whole) c.read_value.ensures.chains

pub returns-in-Ok-clause-fault : goal.returns-in-Ok-clause-fault
returns-in-Ok-clause-fault c =
    let asked = question c.args.asked c.args.assumed.now in
    let whole = text_is c.args.name.now asked c.args.bytes.now c.in-Ok.ensures.ok.0
    ∙ ap (chains_of_document c.args.name.now asked) c.in-Ok.ensures.ok.1 in
    subst (λ said. IfErr c.read_value.result (IsToldOf said)) (sym whole) c.read_value.ensures.fault

pub returns-in-Err-Invalid-clause-fault : goal.returns-in-Err-Invalid-clause-fault
returns-in-Err-Invalid-clause-fault c =
    let asked = question c.args.asked c.args.assumed.now in
    let invalid = c.in-Err-Invalid.ensures.invalid (ap Err c.in-Err-Invalid.field-0-is) in
    subst (IsToldOf (chains_of_text c.args.name.now asked c.args.bytes.now)) (sym c.whole_fault.ensures)
    (no_text c.args.name.now asked c.args.bytes.now invalid)
