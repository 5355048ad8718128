-- The flags are asked by their views.
use Rattle.std.proofs.Common.{◌∙◌, ap, sym}
use Rattle.std.specs.List.{list_all}
use Rattle.json.specs.Json.{Json}
use Rattle.json.specs.Find.{as_str}
use Rattle.nft_reader.specs.Ruleset.{are_awake_flags, is_awake_flag}
use Rattle.nft_reader.proofs.Views.{all_views}
use Rattle.nft_reader.proofs.ruleset.has_awake_flags.Goals as goal

pub returns-in-Some : goal.returns-in-Some
returns-in-Some c =
    c.are_awake_flags.ensures
    ∙ sym (all_views (λ flag. is_awake_flag (as_str flag)) c.listed_values.result.now)
    ∙ ap (list_all (λ (flag : Json). is_awake_flag (as_str flag))) c.listed_values.ensures
    ∙ ap are_awake_flags c.in-Some.ensures
