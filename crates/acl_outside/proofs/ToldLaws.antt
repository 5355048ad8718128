-- Laws of what is told step by step, for every relation.
use Rattle.std.proofs.Common.{Option, Some, None}
use Rattle.acl_outside.specs.Told.{Changes}

-- two steps, one after the other
pub Changes-join : {A : Type 0} (P Q R : A → A → Type 0) → ((a b c : A) → P a b → Q b c → R a c) →
    (old mid new : Option A) → Changes P old mid → Changes Q mid new → Changes R old new
Changes-join P Q R join None None None first second = tt
Changes-join P Q R join (Some old) (Some mid) (Some new) first second = join old mid new first second
Changes-join P Q R join None (Some mid) new first second = absurd first
Changes-join P Q R join (Some old) None new first second = absurd first
Changes-join P Q R join None None (Some new) first second = absurd second
Changes-join P Q R join (Some old) (Some mid) None first second = absurd second

-- a step of one relation is one of each weaker relation
pub Changes-weaker : {A : Type 0} (P Q : A → A → Type 0) → ((a b : A) → P a b → Q a b) →
    (old new : Option A) → Changes P old new → Changes Q old new
Changes-weaker P Q weaker None None step = tt
Changes-weaker P Q weaker (Some old) (Some new) step = weaker old new step
Changes-weaker P Q weaker None (Some new) step = absurd step
Changes-weaker P Q weaker (Some old) None step = absurd step
