use Rattle.std.proofs.Common.{◌≡◌, [], true≢false, refl, sym, ◌∙◌, inl, inr}
use Rattle.state_parts.specs.declared.target.Target.TheVariants.{Parts}
use Rattle.trie_merge.proofs.build.join_entries.Goals as goal

pub returns : goal.returns
returns c =
    let joined = rw (c.as_slice.ensures.value, c.in_ok-entries.ensures) at c.in_ok-number-in-Parts.ensures in
    let same : Parts c.in-Parts.parts ≡ Parts [] = sym c.in-Parts.is ∙ c.requires.none in
    let none : c.in-Parts.parts ≡ [] = cc in
    record {
      pairs = c.join_all.new.self;
      parts = refl;
      within = joined.within;
      all = joined.all;
      entries = λ entry has. elim (joined.entries entry has) [
        | inl was ↦ absurd (true≢false (sym (rw none at was)))
        | inr is ↦ is
      ];
    }
