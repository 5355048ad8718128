-- The words of `classify` make no file.
use Rattle.std.proofs.Common.{◌≡◌, None, Result, Ok, Err, refl}
use Rattle.command_words.specs.declared.usage_fault.UsageFault.{UsageFault}
use Rattle.command_words.specs.Command.{Named, asked_by, classify_request}
use Rattle.acl_tool.specs.CommandEffects.{makes_of}
use Rattle.aclc_page.specs.declared.exports.Asked.{Asked}
use Rattle.aclc_page.specs.Ran.{MakesNothing}
use Rattle.aclc_page.specs.Words.{classify_words}

-- whatever was read after the verb
classify_asked : (read : Result Named UsageFault) → makes_of (asked_by classify_request read) ≡ None
classify_asked (Ok named) = refl
classify_asked (Err fault) = refl

-- `classify` makes no file
pub classify_makes : (asked : Asked) → MakesNothing (classify_words asked)
classify_makes asked = classify_asked _
