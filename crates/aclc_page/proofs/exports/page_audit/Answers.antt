-- what was run was handed over
use Rattle.aclc_page.proofs.Handing.{Answers-from}
use Rattle.aclc_page.proofs.exports.page_audit.Goals as goal

pub returns : goal.returns
returns c = Answers-from c.audit.result c.audit.ensures c.hand_over.ensures
