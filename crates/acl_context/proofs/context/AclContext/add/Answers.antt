use Rattle.std.proofs.Common.{◌+◌, ◌≤◌, ◌++◌, map, length, Ok, Err, sym, ap, arith, subst}
use Rattle.std.proofs.lemmas.Result.{err_from_is_err_and}
use Rattle.std.proofs.lemmas.List.{length-map}
use Rattle.acl_context.specs.declared.add.AddFault.TheVariants.{Full, OutOfMemory}
use Rattle.acl_context.specs.Add.{Adds}
use Rattle.acl_context.specs.Context.{ContextView, with_rules}
use Rattle.acl_context.proofs.Adding.{adds_too_many, adds_no_unlawful, adds_without_memory, adds_all}
use Rattle.acl_context.proofs.context.AclContext.add.Goals.{in-Ok, in-Err}
use Rattle.acl_context.proofs.context.AclContext.add.Goals as goal

pub returns-then-rules-room : goal.returns-then-rules-room
returns-then-rules-room g c =
    let view = g.R.Given.view in
    let given = map view c.args.rules.now in
    let len = length-map c.args.rules.now view in
    let held = ap (λ (context : ContextView). length context.set.rules) c.self.view_is in
    let most = ap (λ (context : ContextView). context.max_rules) c.self.view_is in
    subst (λ (context : ContextView). Adds {T = Unit {0}} given context context (Err Full)) c.self.view_is
    (adds_too_many _ given (omega (arith, len, c.if-rules-room.true, c.room.ensures, held, most)))

pub returns-in_err-check_all : goal.returns-in_err-check_all
returns-in_err-check_all g c =
    let view = g.R.Given.view in
    let given = map view c.args.rules.now in
    let len = length-map c.args.rules.now view in
    let held = ap (λ (context : ContextView). length context.set.rules) c.self.view_is in
    let most = ap (λ (context : ContextView). context.max_rules) c.self.view_is in
    let fault = c.in_err-check_all.field-0.0 in
    let first = sym (rw (c.in_err-check_all.was, c.layout.ensures) at c.check_all.ensures) in
    let failed = err_from_is_err_and c.from_residual.result c.from_residual.ensures.1 in
    rw (failed.1, failed.2)
    (subst (λ (context : ContextView). Adds {T = Unit {0}} given context context (Err fault)) c.self.view_is
    (adds_no_unlawful _ given fault
    (omega (arith, len, c.if-rules-room.false, c.room.ensures, held, most)) first))

pub returns : goal.returns
returns g c =
    let view = g.R.Given.view in
    let given = map view c.args.rules.now in
    let len = length-map c.args.rules.now view in
    let held = ap (λ (context : ContextView). length context.set.rules) c.self.view_is in
    let most = ap (λ (context : ContextView). context.max_rules) c.self.view_is in
    let old : ContextView = record {
      set = c.self.inside.rules;
      max_rules = c.self.inside.max_rules;
      table = c.self.inside.table;
    } in
    let room : length old.set.rules + length given ≤ old.max_rules =
    omega (arith, len, c.if-rules-room.false, c.room.ensures, held, most) in
    let none = sym (rw (c.in_ok-check_all.was, c.layout.ensures) at c.check_all.ensures) in
    let new = with_rules old (old.set.rules ++ given) in
    elim c.match-push_all.branch [
      | in-Ok w ↦ rw (w.result-is, w.in-Ok.ensures.ok)
          (subst (λ (context : ContextView). Adds given context new (Ok tt)) c.self.view_is
          (adds_all old given tt room none))
      | in-Err w ↦ rw (w.result-is, w.in-Err.ensures.err)
          (subst (λ (context : ContextView). Adds {T = Unit {0}} given context old (Err OutOfMemory)) c.self.view_is
          (adds_without_memory old given room none))
    ]
