-- What a page gives, and what it is told where there is no memory.
use Rattle.std.specs.Prelude.{ℕ, List, []}
use Rattle.acl_outside.specs.Desk.{File}
use Rattle.acl_outside.specs.Memory.{MemDeskView, desk_over}

-- how many bytes a read gives at most
abbrev pub piece : ℕ
piece = 1073741824

-- the desk that has these files and nothing else, of which nothing was asked yet
abbrev pub desk_of : List File → MemDeskView
desk_of files = desk_over files piece 0 [] []

-- The code where there is no memory, which is that of `aclc`.
abbrev pub no_memory : ℕ
no_memory = 9
