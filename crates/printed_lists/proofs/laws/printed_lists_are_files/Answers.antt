use Rattle.printed_lists.proofs.Lists as lists
use Rattle.printed_lists.proofs.laws.printed_lists_are_files.Goals as goal

pub returns : goal.returns
returns c = lists.printed_lists_are_files
