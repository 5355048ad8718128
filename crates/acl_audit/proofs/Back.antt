-- One step of the way back from a row.
use Rattle.std.proofs.Common.{◌≡◌, ℕ, suc, ◌+◌, ◌-◌, ◌<◌, List, [], length, get_or, slice_set, sym, ◌∙◌, ap, subst, arith}
use Rattle.acl_audit.specs.declared.links.Link.{Link}
use Rattle.acl_audit.specs.Traced.{link_at, traced, AreChained}

-- the key that is read from a link on, with its byte set, is the one that is read from its row
pub one_back : (levels : List (List Link)) (places : List ℕ) (n passed number : ℕ) (key : List ℕ) (link : Link)
    → passed < n → link ≡ link_at levels (n - 1 - passed) number
    → traced levels places (n - (passed + 1)) link.before
    (slice_set key (get_or places (n - 1 - passed) 0) link.byte)
    ≡ traced levels places (n - passed) number key
one_back levels places n passed number key link within is =
    let depth : ℕ = n - 1 - passed in
    let one : n - passed ≡ suc (n - 1 - passed) = omega (arith, within) in
    let same : n - (passed + 1) ≡ n - 1 - passed = omega (arith, within) in
    ap (λ d. traced levels places d link.before (slice_set key (get_or places (n - 1 - passed) 0) link.byte)) same
    ∙ ap (λ (l : Link). traced levels places (n - 1 - passed) l.before
    (slice_set key (get_or places (n - 1 - passed) 0) l.byte)) is
    ∙ ap (λ d. traced levels places d number key) (sym one)

-- a link leads back to a link of the place before
pub lower_number : (levels : List (List Link)) (n passed number : ℕ) (link : Link) → AreChained levels
    → n ≡ length levels
    → passed + 1 < n → number < length (get_or levels (n - passed - 1) [])
    → link ≡ link_at levels (n - 1 - passed) number
    → link.before < length (get_or levels (n - (passed + 1) - 1) [])
lower_number levels n passed number link chained whole within below is =
    let e : n - passed - 1 ≡ n - (passed + 1) - 1 + 1 = omega (arith, within) in
    let f : n - 1 - passed ≡ n - (passed + 1) - 1 + 1 = omega (arith, within) in
    subst (λ (l : Link). l.before < length (get_or levels (n - (passed + 1) - 1) []))
    (sym (is ∙ ap (λ d. link_at levels d number) f))
    (chained.before (n - (passed + 1) - 1) number (omega (arith, within, whole))
    (subst (λ d. number < length (get_or levels d [])) e below))
