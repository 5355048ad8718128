-- The words of a member that is read: each part is read off the front of them.
use Rattle.std.proofs.Common.{◌≡◌, ℕ, Bool, ◌+◌, ◌-◌, ◌==◌, true, false, List, [], ◌∷◌, ◌++◌, Some, None, Option, Ok, Err, Result}
use Rattle.std.proofs.Common.{refl, sym, ap, ◌∙◌, subst, append-nil, if◌then◌else◌, nat_le}
use Rattle.std.specs.Prelude.{codes}
use Rattle.std.specs.Str.{bytes_eq}
use Rattle.text_scan.specs.Parts.{slash, cut_at}
use Rattle.list_chains.specs.declared.span.Span.{Span}
use Rattle.cisco_reader.specs.declared.fault.LineKind.{LineKind}
use Rattle.cisco_reader.specs.declared.fault.LineKind.TheVariants.{BadAddress, BadNetworkMask}
use Rattle.cisco_reader.specs.Entry.{address_in, all_ones}
use Rattle.cisco_reader.specs.Held.{addresses_between, length_or_mask, network_member, network_of, plain_member, prefix_span, prefixed, range_of}
use Rattle.cisco_reader.specs.Names.{number_of}
use Rattle.cisco_reader.specs.Read.{After, done, found, required}
use Rattle.cisco_reader.specs.Wildcard.{ip4_plain}
use Rattle.cisco_reader.specs.Joined as joined
use Rattle.cisco_reader.specs.Joined.{IsNetwork}
use Rattle.cisco_reader.proofs.Taken.{Reads, either, ended_alone, front, left, made, one_read, was_found, went, with_word}

-- what a test has to hold for held
wanted : {A : Type 0} (test : Bool) (kind : LineKind) (read : Result A LineKind) (last : A) →
    (if test then read else Err kind) ≡ Ok last → read ≡ Ok last
wanted true kind read last is = is
wanted false kind read last is = absurd cc

-- a prefix by its length
prefix_is : {P : Type 0} (address : ℕ) (text : List ℕ) (it : Span) → prefixed address text ≡ Ok it →
    ((bits : ℕ) → number_of 32 text ≡ Some bits → it ≡ prefix_span address (32 - bits) → P) → P
prefix_is address text it is then_ =
    let bits = went (found BadNetworkMask (number_of 32 text)) _ it is in
    let e : it ≡ prefix_span address (32 - bits.value) = let same = bits.goes in cc in
    then_ bits.value (was_found BadNetworkMask (number_of 32 text) bits.value bits.is) e

-- what stands after an address
after_is : (text : List ℕ) (address mark : ℕ) (word : List ℕ) (it : Span) → ip4_plain text ≡ Some address →
    length_or_mask address (mark ∷ word) ≡ Ok it → IsNetwork (text ∷ (mark ∷ word) ∷ []) it
after_is text address mark word it said is =
    either (mark == slash) _ _ it
    (λ cut got. prefix_is address word it got
    (λ bits digits same. joined.Long text mark word address bits cut said digits refl same))
    (λ got. let mask = went (found BadNetworkMask (ip4_plain (mark ∷ word))) _ it got in
    let right = wanted _ BadNetworkMask (Ok (addresses_between address (address + (all_ones - mask.value)))) it
    mask.goes in
    let e : it ≡ addresses_between address (address + (all_ones - mask.value)) = cc in
    joined.WithMask text (mark ∷ word) address mask.value said
    (was_found BadNetworkMask (ip4_plain (mark ∷ word)) mask.value mask.is) refl e) is

-- an address, and what stands after it or nothing
network_reads : (text : List ℕ) (address : ℕ) (words : List (List ℕ)) (read : After Span) →
    ip4_plain text ≡ Some address → network_of address words ≡ Ok read → Reads IsNetwork (text ∷ words) read
network_reads text address [] read said is =
    made IsNetwork (text ∷ []) [] (addresses_between address address) (joined.Alone text address said refl refl) is
network_reads text address ([] ∷ words) read said is = absurd cc
network_reads text address ((mark ∷ word) ∷ words) read said is =
    let it = went (length_or_mask address (mark ∷ word)) _ read is in
    made IsNetwork (text ∷ (mark ∷ word) ∷ []) words it.value (after_is text address mark word it.value said it.is)
    it.goes

-- a member that no word of its own begins
plain_reads : (word : List ℕ) (words : List (List ℕ)) (read : After Span) (cut : Option (List ℕ × List ℕ)) →
    cut_at slash word ≡ cut → plain_member word words cut ≡ Ok read → Reads IsNetwork (word ∷ words) read
plain_reads word words read None parted is =
    let address = went (found BadAddress (ip4_plain word)) _ read is in
    network_reads word address.value words read (was_found BadAddress (ip4_plain word) address.value address.is)
    address.goes
plain_reads word words read (Some cut) parted is =
    let address = went (found BadAddress (ip4_plain cut.0)) _ read is in
    let span = went (prefixed address.value cut.1) _ read address.goes in
    made IsNetwork (word ∷ []) words span.value (prefix_is address.value cut.1 span.value span.is
    (λ bits digits same. joined.Short word cut.0 cut.1 address.value bits parted
    (was_found BadAddress (ip4_plain cut.0) address.value address.is) digits refl same)) span.goes

-- both addresses of a range
range_reads : (word : List ℕ) (words : List (List ℕ)) (read : After Span) → bytes_eq word (codes "range") ≡ true →
    range_of words ≡ Ok read → Reads IsNetwork (word ∷ words) read
range_reads word words read named is =
    let one = left (required words) _ read is in
    let other = left (required one.read.words) _ read one.goes in
    let low = went (found BadAddress (ip4_plain one.read.value)) _ read other.goes in
    let high = went (found BadAddress (ip4_plain other.read.value)) _ read low.goes in
    let it = made IsNetwork (word ∷ one.read.value ∷ other.read.value ∷ []) other.read.words
    (addresses_between low.value high.value)
    (joined.Between word one.read.value other.read.value low.value high.value named
    (was_found BadAddress (ip4_plain one.read.value) low.value low.is)
    (was_found BadAddress (ip4_plain other.read.value) high.value high.is) refl refl)
    (wanted (nat_le low.value high.value) BadAddress (done (addresses_between low.value high.value) other.read.words)
    read high.goes) in
    subst (λ ws. Reads IsNetwork (word ∷ ws) read)
    (ap (λ ws. one.read.value ∷ ws) (front one.read.words other.read other.is) ∙ front words one.read one.is) it

-- a member, by the word that begins it
member_reads : (word : List ℕ) (words : List (List ℕ)) (read : After Span) → network_member word words ≡ Ok read →
    Reads IsNetwork (word ∷ words) read
member_reads word words read is =
    either (bytes_eq word (codes "any")) _ _ read
    (λ all got. made IsNetwork (word ∷ []) words (addresses_between 0 all_ones) (joined.All word all refl refl) got)
    (either (bytes_eq word (codes "host")) _ _ read
    (λ named got. with_word IsNetwork word (one_read (λ part. IsNetwork (word ∷ part)) (address_in BadAddress)
    (λ address. addresses_between address address) words read
    (λ text address said. joined.One word text address named (was_found BadAddress (ip4_plain text) address said) refl
    refl) got))
    (either (bytes_eq word (codes "range")) _ _ read (λ named got. range_reads word words read named got)
    (plain_reads word words read (cut_at slash word) refl))) is

-- the words of a member that is read are such parts
pub read_members_are_parts : joined.ReadMembersAreParts
read_members_are_parts words it is =
    let first = left (required words) _ it is in
    let member = left (network_member first.read.value first.read.words) _ it first.goes in
    let end_ = ended_alone member.read.words member.read.value it member.goes in
    let reads = member_reads first.read.value first.read.words member.read member.is in
    let whole : reads.part ≡ words =
    sym (append-nil reads.part) ∙ ap (λ ws. reads.part ++ ws) (sym end_.none) ∙ reads.joined
    ∙ front words first.read first.is in
    subst (λ ws. IsNetwork ws it) whole (subst (IsNetwork reads.part) (sym end_.same) reads.is)
