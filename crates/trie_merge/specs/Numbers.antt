-- Numbers of states or rows, in the order in which they are found. Number 0 is nothing.
use Rattle.std.specs.Prelude.{ℕ, List, nat_lt, nat_eq, Bool, if◌then◌else◌}
use Rattle.std.specs.List.{position_or_len}
use Rattle.group_states.specs.Found.{found_with}
use Rattle.group_states.specs.declared.run.Succ.{Succ}
use Rattle.group_states.specs.declared.run.Succ.TheVariants.{Dead, State, Row}

-- the number is that of something
abbrev pub is_some_number : ℕ → Bool
is_some_number number = nat_lt 0 number

-- the numbers found after one more
abbrev pub numbers_with : List ℕ → ℕ → List ℕ
numbers_with found number = found_with nat_eq is_some_number found number

-- what a number is reached as, among those found: a row at the last place, and else a state
abbrev pub succ_of : Bool → List ℕ → ℕ → Succ
succ_of is_last found number =
    if is_some_number number
    then (if is_last then Row (position_or_len (nat_eq number) found) else State
    (position_or_len (nat_eq number) found)) else Dead
