-- what was run was handed over
use Rattle.aclc_page.proofs.Handing.{Answers-from}
use Rattle.aclc_page.proofs.exports.page_classify.Goals as goal

pub returns : goal.returns
returns c = Answers-from c.classify.result c.classify.ensures c.hand_over.ensures
