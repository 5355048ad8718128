-- A table is read step by step: its numbers, its tries, its words and its rows.
use Rattle.std.proofs.Common.{◌≡◌, ℕ, ◌+◌, ◌*◌, ◌≤◌, List, [], length, sum, map, refl, sym, ap, ◌∙◌, arith, Ok, Err}
use Rattle.std.proofs.Common.{true, None}
use Rattle.flat_table.specs.Groups.{is_key_len, depth_of}
use Rattle.flat_table.specs.Sound.{sound_fault}
use Rattle.table_sizes.specs.Sizes.{max_words, row_len}
use Rattle.table_image.specs.declared.load_fault.ImageFault.{ImageFault}
use Rattle.table_image.specs.declared.load_fault.LoadFault.{LoadFault}
use Rattle.table_image.specs.declared.version.Version.{Version}
use Rattle.table_image.specs.Spelling.{long}
use Rattle.table_image.specs.ImageReading.{◌>>=◌, Counts, counts, TriesView, no_tries, tries_after, words_of_tries}
use Rattle.table_image.specs.ImageReading.{rows_after, row_bytes, table_of, words_and_rows, table_read}
use Rattle.table_image.specs.Loading.{IsFaultOf, levels_of_tries}
use Rattle.table_image.proofs.Fields.{AreBytes}
use Rattle.table_image.proofs.Loops.{fault_of_both, fault_of_same}
use Rattle.table_image.proofs.TriesRead.{tries_read}
use Rattle.table_image.proofs.TriesSound.{are_sound}
use Rattle.table_image.proofs.TablesRead.{table_at}

module _ (version : Version) (family key_len : ℕ) (bytes : List ℕ) (at : ℕ) where
  -- the numbers have a fault
  pub counts_fault : (fault : ImageFault) → counts family bytes at ≡ Err fault →
      table_read version family key_len bytes at ≡ Err fault
  unfolding table_read
  counts_fault fault e = rw e refl

  module _ (c : Counts) (e : counts family bytes at ≡ Ok c) where
    -- after its four numbers a table is read as tries, words and rows
    after_counts : table_read version family key_len bytes at
        ≡ (tries_after version key_len (row_len * (c.rows + 1)) bytes c.tries (no_tries (at + 16))
        >>= words_and_rows key_len bytes c)
    unfolding table_read
    after_counts = rw e refl

    -- they have a fault
    pub tries_fault : (fault : LoadFault) →
        IsFaultOf (tries_after version key_len (row_len * (c.rows + 1)) bytes c.tries (no_tries (at + 16))) fault →
        IsFaultOf (table_read version family key_len bytes at) fault
    tries_fault fault f = fault_of_same _ _ fault after_counts
        (fault_of_both (tries_after version key_len (row_len * (c.rows + 1)) bytes c.tries (no_tries (at + 16)))
        (words_and_rows key_len bytes c) fault f)

    module _ (tries : TriesView)
        (t : tries_after version key_len (row_len * (c.rows + 1)) bytes c.tries (no_tries (at + 16)) ≡ Ok tries) where
      -- they have as many levels as they keep places
      pub tries_levels : AreBytes bytes → row_len * (c.rows + 1) ≤ max_words →
          length tries.level_lens ≡ sum (map (depth_of key_len) tries.kept)
      tries_levels are few =
          let taken : ℕ = row_len * (c.rows + 1) in
          let r = tries_read version key_len taken bytes c.tries (no_tries (at + 16)) tries are (omega arith) t in
          let s = are_sound version key_len taken 0 r.kept r.roots r.lens (omega arith) r.are in
          ap length r.lens_are ∙ s.levels ∙ ap (λ ks. sum (map (depth_of key_len) ks)) (sym r.kept_are)

      -- after its tries a table is read as words and rows
      after_tries : table_read version family key_len bytes at ≡ words_and_rows key_len bytes c tries
      after_tries = after_counts ∙ (rw t refl)

      -- the words have a fault
      pub words_fault : (fault : LoadFault) →
          IsFaultOf (words_of_tries (c.rows + 1) bytes tries.end (levels_of_tries key_len tries.kept tries.level_lens)
          []) fault →
          IsFaultOf (table_read version family key_len bytes at) fault
      words_fault fault f = fault_of_same _ _ fault after_tries
          (fault_of_both (words_of_tries (c.rows + 1) bytes tries.end
          (levels_of_tries key_len tries.kept tries.level_lens) [])
          (λ words. rows_after c.rules bytes (tries.end + long * length words) c.rows [] >>= λ rows.
          Ok (record {
            table = table_of key_len c.rules tries words rows;
            end = tries.end + long * length words + row_bytes * length rows;
          })) fault f)

      module _ (words : List ℕ)
          (w : words_of_tries (c.rows + 1) bytes tries.end (levels_of_tries key_len tries.kept tries.level_lens) []
          ≡ Ok words) where
        -- after its words a table is read as rows
        after_words : table_read version family key_len bytes at
            ≡ (rows_after c.rules bytes (tries.end + long * length words) c.rows [] >>= λ rows.
            Ok (record {
              table = table_of key_len c.rules tries words rows;
              end = tries.end + long * length words + row_bytes * length rows;
            }))
        after_words = after_tries ∙ (rw w refl)

        -- the rows have a fault
        pub rows_fault : (fault : LoadFault) →
            IsFaultOf (rows_after c.rules bytes (tries.end + long * length words) c.rows []) fault →
            IsFaultOf (table_read version family key_len bytes at) fault
        rows_fault fault f = fault_of_same _ _ fault after_words
            (fault_of_both (rows_after c.rules bytes (tries.end + long * length words) c.rows [])
            (λ rows. Ok (record {
              table = table_of key_len c.rules tries words rows;
              end = tries.end + long * length words + row_bytes * length rows;
            })) fault f)

        module _ (rows : List (List ℕ))
            (r : rows_after c.rules bytes (tries.end + long * length words) c.rows [] ≡ Ok rows) where
          -- all of them were read
          pub all_read : table_read version family key_len bytes at
              ≡ Ok (record {
                table = table_of key_len c.rules tries words rows;
                end = tries.end + long * length words + row_bytes * length rows;
              })
          all_read = after_words ∙ (rw r refl)

          -- what they make is sound
          pub read_sound : AreBytes bytes → is_key_len key_len ≡ true →
              sound_fault (table_of key_len c.rules tries words rows) ≡ None
          read_sound are keyed = (table_at version family key_len bytes at _ are keyed all_read).is.sound
