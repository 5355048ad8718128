-- The law over all names and values.
use Rattle.nft_reader.proofs.Counting.{counting_suffices}
use Rattle.nft_reader.proofs.laws.counted_members_are_all.Goals as goal

pub returns : goal.returns
returns c = counting_suffices
