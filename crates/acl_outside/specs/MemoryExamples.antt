-- Examples of the desk and the sink over memory, each checked by evaluation.
use Rattle.std.specs.Prelude.{◌≡◌, ℕ, List, [], ◌∷◌, replicate, Bool, true, false, Some, None, codes, refl}
use Rattle.acl_outside.specs.Fault.{next_count}
use Rattle.acl_outside.specs.Desk.{File, bytes_of}
use Rattle.acl_outside.specs.MemFile.{MadeView, Opened, Created, takes_name}
use Rattle.acl_outside.specs.Memory.{MemDeskView, MemSinkView, desk_over, distinct_names, all_files, content_of, next_read_fails, next_write_fails, has_file, read_len, write_fails, write_len, put_fails, put_len}

abbrev file : List ℕ → List ℕ → File
file name bytes = record { name = name; bytes = bytes }

-- two files, of which the second has no bytes
abbrev two_files : List File
two_files = file (codes "rules") (1 ∷ 2 ∷ 3 ∷ 4 ∷ []) ∷ file (codes "rule") [] ∷ []

the_first : bytes_of two_files (codes "rules") ≡ Some (1 ∷ 2 ∷ 3 ∷ 4 ∷ [])
the_first = refl

the_empty_one : bytes_of two_files (codes "rule") ≡ Some []
the_empty_one = refl

no_such_file : bytes_of two_files (codes "Rules") ≡ None
no_such_file = refl

no_empty_name : bytes_of two_files [] ≡ None
no_empty_name = refl

names_apart : distinct_names two_files ≡ true
names_apart = refl

one_name_twice : distinct_names (file (codes "rule") (7 ∷ []) ∷ two_files) ≡ false
one_name_twice = refl

no_files : distinct_names [] ≡ true
no_files = refl

-- a desk with the first file opened, whose second and fourth reading calls fail, and whose third
-- writing call; it created no file yet, or one in place of the second file
abbrev desk_after : ℕ → Bool → MemDeskView
desk_after calls there = record (desk_over two_files 2 4 (2 ∷ 4 ∷ []) (3 ∷ [])) {
  made = record { there = there; name = codes "rule"; bytes = 8 ∷ 9 ∷ []; room = 4 };
  hand = Opened (codes "rules") (2 ∷ 3 ∷ 4 ∷ []);
  reads = calls;
  writes = calls;
}

-- calls are numbered from 1
the_first_call : next_read_fails (desk_after 0 false) ≡ false
the_first_call = refl

the_second_call : next_read_fails (desk_after 1 false) ≡ true
the_second_call = refl

the_fourth_call : next_read_fails (desk_after 3 false) ≡ true
the_fourth_call = refl

the_fifth_call : next_read_fails (desk_after 4 false) ≡ false
the_fifth_call = refl

-- writing calls have numbers of their own
the_second_writing_call : next_write_fails (desk_after 1 false) ≡ false
the_second_writing_call = refl

the_third_writing_call : next_write_fails (desk_after 2 false) ≡ true
the_third_writing_call = refl

a_file_is_there : has_file (desk_after 0 false) (codes "rule") ≡ true
a_file_is_there = refl

a_file_is_absent : has_file (desk_after 0 false) (codes "captures") ≡ false
a_file_is_absent = refl

the_given_one : bytes_of (all_files (desk_after 0 false)) (codes "rule") ≡ Some []
the_given_one = refl

-- a created file stands in place of a given one, once
the_created_one : all_files (desk_after 0 true) ≡
    file (codes "rule") (8 ∷ 9 ∷ []) ∷ file (codes "rules") (1 ∷ 2 ∷ 3 ∷ 4 ∷ []) ∷ []
the_created_one = refl

-- a read gives no more than the piece, the slice and what is left
bound_by_the_piece : read_len (desk_after 0 false) 100 ≡ 2
bound_by_the_piece = refl

bound_by_the_slice : read_len (desk_after 0 false) 1 ≡ 1
bound_by_the_slice = refl

bound_by_what_is_left : read_len (record (desk_after 0 false) { piece = 9 }) 100 ≡ 3
bound_by_what_is_left = refl

-- the room for a created file of these bytes, with room for four in all
abbrev made_of : List ℕ → MadeView
made_of bytes = record { there = true; name = codes "image"; bytes = bytes; room = 4 }

-- a desk that has created this file
abbrev desk_making : List ℕ → ℕ → MemDeskView
desk_making bytes writes = record (desk_after 0 true) {
  made = made_of bytes;
  hand = Created;
  writes = writes;
}

what_is_created : (content_of (desk_making [] 0)).created ≡ Some (codes "image")
what_is_created = refl

a_write_succeeds : write_fails (desk_making (7 ∷ []) 1) 9 ≡ false
a_write_succeeds = refl

a_listed_write_fails : write_fails (desk_making (7 ∷ []) 2) 9 ≡ true
a_listed_write_fails = refl

an_empty_write_succeeds : write_fails (desk_making (7 ∷ []) 2) 0 ≡ false
an_empty_write_succeeds = refl

a_full_file_takes_nothing : write_fails (desk_making (7 ∷ 7 ∷ 7 ∷ 7 ∷ []) 0) 1 ≡ true
a_full_file_takes_nothing = refl

write_bound_by_the_room : write_len (desk_making (7 ∷ 7 ∷ 7 ∷ []) 0) 9 ≡ 1
write_bound_by_the_room = refl

write_bound_by_the_piece : write_len (desk_making (7 ∷ []) 0) 9 ≡ 2
write_bound_by_the_piece = refl

write_bound_by_the_length : write_len (desk_making (7 ∷ []) 0) 1 ≡ 1
write_bound_by_the_length = refl

-- one file is created, and that again
the_same_name : takes_name (made_of []) (codes "image") ≡ true
the_same_name = refl

another_name : takes_name (made_of []) (codes "images") ≡ false
another_name = refl

any_first_name : takes_name (record (made_of []) { there = false }) (codes "images") ≡ true
any_first_name = refl

the_longest_name : takes_name (record (made_of []) { there = false }) (replicate 255 7) ≡ true
the_longest_name = refl

a_name_too_long : takes_name (record (made_of []) { there = false }) (replicate 256 7) ≡ false
a_name_too_long = refl

-- a sink with room for two bytes more, whose second put fails
abbrev sink_after : ℕ → MemSinkView
sink_after puts = record {
  written = 1 ∷ 2 ∷ 3 ∷ [];
  room = 5;
  piece = 4;
  failing = 2 ∷ [];
  puts = puts;
  faults = 0;
}

a_put_succeeds : put_fails (sink_after 0) 1 ≡ false
a_put_succeeds = refl

a_listed_put_fails : put_fails (sink_after 1) 1 ≡ true
a_listed_put_fails = refl

an_empty_put_succeeds : put_fails (sink_after 1) 0 ≡ false
an_empty_put_succeeds = refl

a_full_sink_fails : put_fails (record (sink_after 0) { room = 3 }) 1 ≡ true
a_full_sink_fails = refl

a_full_sink_takes_nothing : put_fails (record (sink_after 0) { room = 3 }) 0 ≡ false
a_full_sink_takes_nothing = refl

put_bound_by_the_room : put_len (sink_after 0) 9 ≡ 2
put_bound_by_the_room = refl

put_bound_by_the_length : put_len (sink_after 0) 1 ≡ 1
put_bound_by_the_length = refl

put_bound_by_the_piece : put_len (record (sink_after 0) { room = 50 }) 9 ≡ 4
put_bound_by_the_piece = refl

-- a counter of 64 bits stands still at its last value
one_more : next_count 41 ≡ 42
one_more = refl

the_last_count : next_count 0xFFFF_FFFF_FFFF_FFFE ≡ 0xFFFF_FFFF_FFFF_FFFF
the_last_count = refl

no_more : next_count 0xFFFF_FFFF_FFFF_FFFF ≡ 0xFFFF_FFFF_FFFF_FFFF
no_more = refl
