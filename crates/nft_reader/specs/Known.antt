-- What is asked of a ruleset, and what is known where a rule is read.
use Rattle.std.specs.Prelude.{ℕ, ◌-◌, ◌^◌, ◌==◌, Bool, if◌then◌else◌, codes, List, Option, Some, None, true, false, map}
use Rattle.std.specs.Prelude.{option_and_then, Result, Ok, Err}
use Rattle.std.specs.List.{find}
use Rattle.std.specs.Str.{bytes_eq}
use Rattle.json.specs.Json.{Json}
use Rattle.json.specs.Find.{as_str}
use Rattle.list_chains.specs.declared.chain.Target.{Target}
use Rattle.list_chains.specs.declared.chain.Target.TheVariants as target
use Rattle.nft_reader.specs.declared.fault.RuleKind.{RuleKind}
use Rattle.nft_reader.specs.declared.fault.RuleKind.TheVariants as kind
use Rattle.nft_reader.specs.declared.hooks.Base.{Base}
use Rattle.nft_reader.specs.declared.known.Answers.{Answers}
use Rattle.nft_reader.specs.declared.known.Answers.TheVariants as answers
use Rattle.nft_reader.specs.declared.known.Asked.{Asked}
use Rattle.nft_reader.specs.declared.known.Known as given
use Rattle.nft_reader.specs.declared.known.Outcome.{Outcome}
use Rattle.nft_reader.specs.declared.known.Setting as laid
use Rattle.nft_reader.specs.Chains.{ListedChain, Names, place_of}
use Rattle.nft_reader.specs.Sets.{ListedSet, at_name, is_wanted, set_of}
use Rattle.nft_reader.specs.Shapes.{len_of, text_in}
use Rattle.nft_reader.specs.Stops.{◌>>=◌, or_cant, or_cause}
use Rattle.nft_reader.specs.Values.{elements_of}

-- what is asked, what is assumed of packets, the base chain that they come to, if there is one, and
-- whether all that a rule catches so far are of protocols whose ports keys have
pub record Question : Type 0 where
  pub asked : Asked
  pub assumed : List ℕ
  pub begin : Option Base
  pub ported : Bool

-- the question, and the sets of the ruleset
pub record Setting : Type 0 where
  pub question : Question
  pub sets : List ListedSet

-- the question, the sets, the chains that stand before a rule, the chain of the rule, and its
-- handle
pub record Known : Type 0 where
  pub question : Question
  pub sets : List ListedSet
  pub chains : List ListedChain
  pub owner : Names
  pub handle : ℕ

-- ---- what code holds, as these

-- what is asked
abbrev pub asked_of : given.Known → Asked
asked_of known = known.asked

-- the question
abbrev pub question_of : given.Known → Question
question_of known = record {
  asked = known.asked;
  assumed = known.assumed.now;
  begin = known.begin;
  ported = known.ported;
}

-- what is known where objects are read
abbrev pub setting_of : laid.Setting → Setting
setting_of setting = record {
  question = record {
    asked = setting.asked;
    assumed = setting.assumed.now;
    begin = setting.begin;
    ported = false;
  };
  sets = map set_of setting.sets.now;
}

-- what is known where a rule is read
abbrev pub known_of : given.Known → Known
known_of known = record {
  question = question_of known;
  sets = map set_of known.sets.now;
  chains = known.chains.now;
  owner = known.owner.now;
  handle = known.handle;
}

-- ---- verdicts

-- the number of a verdict that a chain may have as its policy
abbrev pub policy_named : List ℕ → Option ℕ
policy_named name =
    if bytes_eq name (codes "accept") then Some 1
    else (if bytes_eq name (codes "drop") then Some 2 else None)

-- the number of a verdict: packets of `return` go on where the chain was led to; 3 is an answer to
-- the sender
abbrev pub verdict_named : List ℕ → Option ℕ
verdict_named name = if bytes_eq name (codes "return") then Some 0 else policy_named name

-- the answer of a verdict of a rule or a policy with a handle
abbrev pub answer_of : Answers → ℕ → ℕ → ℕ
answer_of answers.Handle handle verdict = handle
answer_of answers.Verdict handle verdict = verdict

-- what becomes of packets by a verdict: it decides, but for `return`
abbrev pub decision : Known → ℕ → Outcome
decision known verdict = record {
  answer = answer_of known.question.asked.answers known.handle verdict;
  target = if verdict == 0 then target.Return else target.Decide;
}

-- what becomes of packets that are led on
abbrev pub leading : Known → Target → Outcome
leading known where_to = record { answer = known.handle; target = where_to }

-- the place of no chain
abbrev pub nowhere : Target
nowhere = target.Jump (2 ^ 64 - 1)

-- ---- what a rule names

-- the chain that a jump names
abbrev pub target_of : Json → Option (List ℕ)
target_of said = if len_of said == 1 then text_in (codes "target") said else None

-- the place of that chain, which stands in the same table; packets don't come to it by themselves
abbrev pub led_place : Known → Json → Result ℕ RuleKind
led_place known said =
    or_cause kind.BadStatement (target_of said) >>= λ name.
    or_cause kind.NoTarget (place_of true (record known.owner { name = name }) known.chains)

-- the same, or none
abbrev pub led_to : Known → Json → Option ℕ
led_to known said =
    option_and_then (λ name. place_of true (record known.owner { name = name }) known.chains)
    (target_of said)

-- what becomes of packets by a statement: by `continue` they go on to the next rule
abbrev pub outcome_of : Known → List ℕ → Json → Result (Option Outcome) RuleKind
outcome_of known name said =
    if bytes_eq name (codes "jump")
    then (led_place known said >>= λ place. Ok (Some (leading known (target.Jump place))))
    else (if bytes_eq name (codes "goto")
    then (led_place known said >>= λ place. Ok (Some (leading known (target.Go place))))
    else (if bytes_eq name (codes "continue") then Ok None
    else (or_cause kind.UnknownStatement (verdict_named name) >>= λ verdict.
    Ok (Some (decision known verdict)))))

-- the elements of a set that is found
abbrev pub elements_found : Option ListedSet → Result (List Json) RuleKind
elements_found None = Err kind.NoSet
elements_found (Some set) = set.elements

-- the elements of the set of a name in the table of the rule's chain, which have verdicts or not
abbrev pub named_elements : Known → Bool → List ℕ → Result (List Json) RuleKind
named_elements known verdicts name =
    elements_found (find (is_wanted verdicts (record known.owner { name = name })) known.sets)

-- the elements of a set by its name, if it is named, or else those that a value has
abbrev pub elements_by : Known → Bool → Json → Option (List ℕ) → Result (List Json) RuleKind
elements_by known verdicts value None = or_cant (elements_of value)
elements_by known verdicts value (Some name) = named_elements known verdicts name

-- the elements that a value has, or those of the set that it names
abbrev pub known_elements : Known → Bool → Json → Result (List Json) RuleKind
known_elements known verdicts value =
    elements_by known verdicts value (option_and_then at_name (as_str value))
