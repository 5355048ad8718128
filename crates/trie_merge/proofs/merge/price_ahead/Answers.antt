-- The cuts of the part tell the words, and a row takes one at least.
use Rattle.std.proofs.Common.{◌≡◌, ℕ, ◌-◌, List, get_or, ◌∙◌, arith, rules}
use Rattle.std.proofs.lemmas.List.{get_or_default}
use Rattle.std.proofs.lemmas.Bool.{false≢true}
use Rattle.std.proofs.lemmas.Bool.Decides.{nat_tests}
use Rattle.trie_merge.proofs.merge.price_ahead.Goals as goal
use Rattle.trie_merge.proofs.RowNumbers.{known_arranged}
use Rattle.trie_merge.proofs.Leads.{built_tells, told}
use Rattle.trie_merge.proofs.Zipped.{rises_of}
use Rattle.trie_merge.specs.Cuts.{no_cuts}
use Rattle.trie_merge.specs.Words.{cost_ahead}
use Rattle.trie_merge.specs.Shared.{IsState}
use Rattle.trie_merge.specs.declared.cuts.Cuts.{Cuts}

pub fill_cuts-requires-clause-can : goal.fill_cuts-requires-clause-can
fill_cuts-requires-clause-can c = λ entry has. c.requires.ask entry (rw c.in-Parts.is has)

pub returns-in-Rows : goal.returns-in-Rows
unfolding cost_ahead
returns-in-Rows c = record {
  cuts = search rules;
  least = λ set tree list rise is. grind (arith, nat_tests);
  some = omega arith;
  most = omega arith;
  row = λ e. absurd (false≢true e);
}

pub returns-in_ok-fill_cuts-in-Parts : goal.returns-in_ok-fill_cuts-in-Parts
returns-in_ok-fill_cuts-in-Parts c =
    let n : ℕ = c.args.number in
    let all : List Cuts = c.fill_cuts.new.cuts.items in
    let filled = c.in_ok-fill_cuts-in-Parts.ensures in
    let its : Cuts = get_or all (n - 1) no_cuts in
    let found : c.index.result.now ≡ its =
    c.index.ensures ∙ get_or_default all (n - 1) c.index.result.now no_cuts
    (omega (arith, c.requires.number.0, filled.far)) in
    record {
      cuts = rw c.in-Parts.is filled.built;
      least = λ set tree list rise is.
          (let state : IsState c.in-Parts.parts tree list n = rw c.in-Parts.is at is in
          rw (c.words_of.ensures.words, found, state.is)
          (told (rises_of state.entries state.own tree.rules rise)
          (known_arranged tree state.entries c.args.next.now its
          (built_tells c.args.next.now c.in-Parts.parts all filled.built tree.tree state.entries n state.stands
          c.requires.number.0 filled.far))));
      some = c.words_of.ensures.bound.0;
      most = c.words_of.ensures.bound.1;
      row = λ e. absurd (false≢true e);
    }
