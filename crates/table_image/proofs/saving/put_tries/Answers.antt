use Rattle.std.proofs.Common.{◌≡◌, ℕ, List, [], ◌+◌, ◌^◌, ◌∙◌, ◌++◌, ◌<◌, sym, ap, arith, length, refl, get_or, drop, take, length-drop}
use Rattle.std.specs.List.{list_all}
use Rattle.std.proofs.lemmas.List.{append-nil, drop_all, take_all}
use Rattle.std.proofs.lemmas.List.Folds.{list_all_more}
use Rattle.std.proofs.lemmas.Bool.{and_from, lt-ltb}
use Rattle.flat_table.specs.Groups.{depth_of}
use Rattle.table_image.specs.declared.version.Version.TheVariants.{Two}
use Rattle.table_image.specs.Spelling.{spelled, all_spelled, spelled_tries, is_word}
use Rattle.table_image.proofs.Written.{trie_written, levels_left, kept_fits, kept_count, all_levels}
use Rattle.table_image.proofs.saving.put_tries.Goals as goal

pub split_at-requires : goal.split_at-requires
split_at-requires c =
    let left = levels_left (depth_of c.args.table.now.key_len) c.loop-trie.trie c.args.table.now.kept
    c.loop-trie.lens.now
    (omega (arith, kept_count c.args.table.now c.loop-trie.invariant.sound)) c.loop-trie.invariant.levels in
    omega (arith, left, c.depths.ensures.value)

pub overflow_cast-kept : goal.overflow_cast-kept
overflow_cast-kept c =
    omega (
      arith,
      c.kept.ensures,
      kept_fits c.args.table.now c.loop-trie.trie c.loop-trie.invariant.sound c.requires.keys
          (omega (arith, kept_count c.args.table.now c.loop-trie.invariant.sound)),
    )

pub loop-trie-init : goal.loop-trie-init
loop-trie-init c = record {
  rest = ap (λ lens. c.args.out.now.items ++ spelled_tries Two c.args.table.now.key_len c.args.table.now.kept
      c.args.table.now.roots
      lens) c.level_lens-lens.ensures;
  levels = ap length c.level_lens-lens.ensures ∙ all_levels c.args.table.now c.tries-trie-end.ensures.sound;
  typed = refl;
  sound = c.tries-trie-end.ensures.sound;
}

pub loop-trie-preserved : goal.loop-trie-preserved
loop-trie-preserved c =
    let i : ℕ = c.loop-trie.trie in
    let table = c.args.table.now in
    let within : i < length table.kept = omega (arith, kept_count table c.loop-trie.invariant.sound) in
    let within' : i < length table.roots = omega arith in
    let d : ℕ = depth_of table.key_len (get_or table.kept i 0) in
    let front : c.split_at.result.0.now ≡ take d c.loop-trie.lens.now =
    c.split_at.ensures.front ∙ ap (λ n. take n c.loop-trie.lens.now) c.depths.ensures.value in
    let back : c.split_at.result.1.now ≡ drop d c.loop-trie.lens.now =
    c.split_at.ensures.back ∙ ap (λ n. drop n c.loop-trie.lens.now) c.depths.ensures.value in
    let next : c.put_long.new.out.items
    ≡ ((c.loop-trie.out.items ++ spelled 4 (get_or table.kept i 0)) ++ all_spelled 4 (take d c.loop-trie.lens.now))
    ++ spelled 8 (get_or table.roots i 0) =
    c.in_ok-put_long.ensures ∙ ap (λ n. c.put_lens.new.out.items ++ spelled 8 n) c.root.ensures.value
    ∙ ap (λ xs. xs ++ spelled 8 (get_or table.roots i 0)) (c.in_ok-put_lens.ensures
    ∙ ap (λ xs. c.put_short.new.out.items ++ all_spelled 4 xs) front
    ∙ ap (λ xs. xs ++ all_spelled 4 (take d c.loop-trie.lens.now)) (c.in_ok-put_short.ensures
    ∙ ap (λ n. c.loop-trie.out.items ++ spelled 4 n) c.kept.ensures)) in
    record {
      rest = ap (λ xs. c.put_long.new.out.items ++ spelled_tries Two table.key_len (drop (i + 1) table.kept)
          (drop (i + 1) table.roots) xs) back
          ∙ trie_written table.key_len i table.kept table.roots c.loop-trie.lens.now c.loop-trie.out.items
          c.put_long.new.out.items
          within within' next
          ∙ c.loop-trie.invariant.rest;
      levels = ap length back ∙ omega (
        arith,
        length-drop d c.loop-trie.lens.now,
        levels_left (depth_of table.key_len) i table.kept c.loop-trie.lens.now within c.loop-trie.invariant.levels,
      );
      typed = list_all_more is_word table.roots i 0 within'
          ∙ and_from (list_all is_word (take i table.roots)) (is_word (get_or table.roots i 0))
          c.loop-trie.invariant.typed
          (lt-ltb (get_or table.roots i 0) (2 ^ 64) (omega (arith, c.root.ensures.value, c.root.type_inv)));
      sound = c.loop-trie.invariant.sound;
    }

pub returns : goal.returns
returns c =
    let table = c.args.table.now in
    let all : drop c.loop-trie.trie table.kept ≡ [] =
    drop_all c.loop-trie.trie table.kept (omega (arith, kept_count table c.loop-trie.invariant.sound)) in
    let out : List ℕ = c.loop-trie.out.items in
    record {
      text = sym (append-nil out)
          ∙ ap (λ ks. out ++ spelled_tries Two table.key_len ks (drop c.loop-trie.trie table.roots)
          c.loop-trie.lens.now) (sym all)
          ∙ c.loop-trie.invariant.rest;
      typed = ap (list_all is_word) (sym (take_all c.loop-trie.trie table.roots (omega arith)))
          ∙ c.loop-trie.invariant.typed;
      sound = c.loop-trie.invariant.sound;
    }
