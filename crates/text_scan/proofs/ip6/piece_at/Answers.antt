use Rattle.std.proofs.Common.{◌*◌, ◌/◌, ◌%◌, ◌^◌, ap, ◌∙◌}
use Rattle.std.proofs.lemmas.Nat.{and_mask}
use Rattle.text_scan.proofs.ip6.piece_at.Goals as goal
use Rattle.list_lemmas.proofs.Powers.{power_of_two}

pub returns : goal.returns
returns c = and_mask (c.args.value / 2 ^ (16 * c.args.place)) 16
    ∙ ap (λ n. c.args.value / n % 65536) (power_of_two c.args.place)
