use Rattle.std.proofs.Common.{◌≡◌, All, length, ap, sym, ◌∙◌, subst}
use Rattle.std.proofs.lemmas.List.FromFn.{length-map-range_with_len}
use Rattle.table_fill.specs.Filled.{rule_word, table_of_tries}
use Rattle.table_fill.specs.Tries.{HasWinners}
use Rattle.table_fill.proofs.Given.{given, rows_are}
use Rattle.table_fill.proofs.filling.parts_of.Goals as goal

pub roots_of-requires : goal.roots_of-requires
roots_of-requires c =
    (given c.sizes-key_len.ensures.lawful c.sizes-key_len.ensures.layout c.in_ok-words.ensures.userdata c.requires).room

pub level_lens_of-requires : goal.level_lens_of-requires
level_lens_of-requires c =
    (given c.sizes-key_len.ensures.lawful c.sizes-key_len.ensures.layout c.in_ok-words.ensures.userdata c.requires).room

pub words_of-requires : goal.words_of-requires
words_of-requires c =
    (given c.sizes-key_len.ensures.lawful c.sizes-key_len.ensures.layout c.in_ok-words.ensures.userdata c.requires).room

pub rows_of-requires-clause-room : goal.rows_of-requires-clause-room
rows_of-requires-clause-room c =
    (given c.sizes-key_len.ensures.lawful c.sizes-key_len.ensures.layout c.in_ok-words.ensures.userdata c.requires).room

pub rows_of-requires-clause-winners : goal.rows_of-requires-clause-winners
rows_of-requires-clause-winners c =
    let set = c.args.rules.now in
    let is = given c.sizes-key_len.ensures.lawful c.sizes-key_len.ensures.layout c.in_ok-words.ensures.userdata
    c.requires in
    let count : length c.deref.result.now ≡ length set.rules =
    ap length (c.deref.ensures.value ∙ c.in_ok-words.ensures.words) ∙ length-map-range_with_len (rule_word set.rules) 0
    (length set.rules) in
    subst (λ n. All (HasWinners n) c.args.levels.now) (sym count) is.winners

pub returns : goal.returns
unfolding table_of_tries
returns c =
    let is = given c.sizes-key_len.ensures.lawful c.sizes-key_len.ensures.layout c.in_ok-words.ensures.userdata
    c.requires in
    record {
      parts = λ i. record {
        key_len = c.sizes-key_len.ensures.key_len i;
        rules = c.sizes-key_len.ensures.rules i;
        kept = c.in_ok-kept_of.ensures i;
        roots = c.in_ok-roots_of.ensures i;
        level_lens = c.in_ok-level_lens_of.ensures i;
        words = c.in_ok-words_of.ensures i;
        rows = (c.in_ok-rows_of.ensures ∙ rows_are is _ (c.deref.ensures.value ∙ c.in_ok-words.ensures.words)) i;
      };
      can = is.can;
    }
