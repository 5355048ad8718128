use Rattle.acl_context.proofs.add.push_one.Goals as goal

pub push_lawful-requires-clause-lawful : goal.push_lawful-requires-clause-lawful
push_lawful-requires-clause-lawful g c =
    rw (c.in_ok-stored.ensures.ok, c.given_tag.ensures, c.given_fields.ensures) c.requires.lawful
