-- The words of an entry that is read: each part is read off the front of them.
use Rattle.std.proofs.Common.{◌≡◌, ℕ, Bool, true, false, List, [], ◌∷◌, ◌++◌, Some, None, Option, Ok, Err, Result}
use Rattle.std.proofs.Common.{refl, ap, ◌∙◌, subst, if◌then◌else◌, not, ◌||◌, nat_lt}
use Rattle.std.specs.Prelude.{codes}
use Rattle.std.specs.Str.{bytes_eq}
use Rattle.list_chains.specs.declared.span.Span.{Span}
use Rattle.cisco_reader.specs.declared.entry.Addresses.{Addresses}
use Rattle.cisco_reader.specs.declared.entry.Addresses.TheVariants.{Group, Under}
use Rattle.cisco_reader.specs.declared.entry.Carried.{Carried}
use Rattle.cisco_reader.specs.declared.entry.Carried.TheVariants as carried
use Rattle.cisco_reader.specs.declared.entry.Services.{Services}
use Rattle.cisco_reader.specs.declared.entry.Services.TheVariants as services
use Rattle.cisco_reader.specs.declared.entry.Side.{Side}
use Rattle.cisco_reader.specs.declared.names.Known.TheVariants.{Log}
use Rattle.cisco_reader.specs.declared.services.PortPart.{PortPart}
use Rattle.cisco_reader.specs.declared.services.Protocols.TheVariants.{Between}
use Rattle.cisco_reader.specs.declared.fault.LineKind.{LineKind}
use Rattle.cisco_reader.specs.declared.fault.LineKind.TheVariants as kind
use Rattle.cisco_reader.specs.Entry.{address_in, address_word, addresses_of, all_ones, carried_of, log_fault, masked, max_gaps, options_fault, protocols_in, services_with, side_of, unless}
use Rattle.cisco_reader.specs.Groups.{ListedGroup, place_for}
use Rattle.cisco_reader.specs.Services.{port_part}
use Rattle.cisco_reader.specs.Read.{After, done, found, is_end, required}
use Rattle.cisco_reader.specs.Services.{are_compared, protocols_of, service_of}
use Rattle.cisco_reader.specs.Wildcard.{gaps, ip4_plain, under_mask}
use Rattle.cisco_reader.specs.Names.{is_known}
use Rattle.cisco_reader.specs.Joined as joined
use Rattle.cisco_reader.specs.Joined.{AreAddresses, AreCarried, AreCompared, AreLog, AreServices, IsEntry}
use Rattle.cisco_reader.proofs.PortWords.{ports_read}
use Rattle.cisco_reader.proofs.ServiceWords.{service_same}
use Rattle.cisco_reader.proofs.Taken.{Reads, either, front, left, made, not_refused, one_read, was_found, went, with_word, word_read}

-- ---- addresses

-- an address with its mask
masked_reads : (groups : List ListedGroup) (word : List ℕ) (words : List (List ℕ)) (read : After Addresses) →
    masked word words ≡ Ok read → Reads (AreAddresses groups) (word ∷ words) read
masked_reads groups word words read is =
    let address = went (found kind.BadAddress (ip4_plain word)) _ read is in
    let mask = left (address_word kind.BadMask words) _ read address.goes in
    let free = mask.read.value in
    let text = word_read (address_in kind.BadMask) words mask.read mask.is in
    subst (λ ws. Reads (AreAddresses groups) (word ∷ ws) read) text.joined
    (made (AreAddresses groups) (word ∷ text.text ∷ []) mask.read.words (Under (under_mask address.value free))
    (joined.Masked word text.text address.value free
    (was_found kind.BadAddress (ip4_plain word) address.value address.is)
    (was_found kind.BadMask (ip4_plain text.text) free text.is) refl refl)
    (not_refused (nat_lt max_gaps (gaps 32 free)) kind.BadMask
    (done (Under (under_mask address.value free)) mask.read.words) read mask.goes))

-- what stands for addresses
addresses_read : (groups : List ListedGroup) (words : List (List ℕ)) (read : After Addresses) →
    addresses_of groups words ≡ Ok read → Reads (AreAddresses groups) words read
addresses_read groups words read is =
    let first = left (required words) _ read is in
    let word = first.read.value in
    let rest = first.read.words in
    let Are = AreAddresses groups in
    subst (λ ws. Reads Are ws read) (front words first.read first.is)
    (either (bytes_eq word (codes "any")) _ _ read
    (λ all got. made Are (word ∷ []) rest (Under (record { base = 0; free = all_ones }))
    (joined.Any word all refl refl) got)
    (either (bytes_eq word (codes "host")) _ _ read
    (λ named got. with_word Are word (one_read (λ part. Are (word ∷ part)) (address_in kind.BadAddress)
    (λ address. Under (record { base = address; free = 0 })) rest read
    (λ text address said. joined.Host word text address named
    (was_found kind.BadAddress (ip4_plain text) address said) refl refl) got))
    (either (bytes_eq word (codes "object-group")) _ _ read
    (λ named got. with_word Are word (one_read (λ part. Are (word ∷ part)) (place_for groups (codes "network")) Group
    rest read (λ name place said. joined.Grouped word name place named said refl refl) got))
    (masked_reads groups word rest read))) first.goes)

-- ---- sides

-- a side was read off the front of words: addresses, and ports
record ReadsSide (groups : List ListedGroup) (words : List (List ℕ)) (read : After Side) : Type 0 where
  addresses : List (List ℕ)
  ports : List (List ℕ)
  are_addresses : AreAddresses groups addresses read.value.addresses
  are_ports : AreCompared ports read.value.ports
  joined : addresses ++ (ports ++ read.words) ≡ words

side_reads : (groups : List ListedGroup) (words : List (List ℕ)) (read : After Side) →
    side_of groups words ≡ Ok read → ReadsSide groups words read
side_reads groups words read is =
    let first = left (addresses_of groups words) _ read is in
    let second = left (port_part first.read.words) _ read first.goes in
    let near = addresses_read groups words first.read first.is in
    let far = ports_read first.read.words second.read second.is in
    let e : record {
      value = record { addresses = first.read.value; ports = second.read.value };
      words = second.read.words;
    } ≡ read = let same = second.goes in cc in
    subst (ReadsSide groups words) e (record {
      addresses = near.part;
      ports = far.part;
      are_addresses = near.is;
      are_ports = far.is;
      joined = ap (λ ws. near.part ++ ws) far.joined ∙ near.joined;
    })

-- ---- the log

-- what goes on where no fault is told
passed : (test : Bool) (fault : LineKind) (other : Option LineKind) →
    (if test then other else Some fault) ≡ None → (test ≡ true) × (other ≡ None)
passed true fault other none = (refl, none)
passed false fault other none = absurd cc

-- no word more stands there
last_one : (words : List (List ℕ)) (test : Bool) (fault : LineKind) →
    (if not (is_end words) || test then Some fault else None) ≡ None → words ≡ []
last_one [] test fault none = refl
last_one (word ∷ words) test fault none = absurd cc

-- what stands after `log`
after_log : (span : Span) (word : List ℕ) (words : List (List ℕ)) → is_known Log word ≡ true →
    log_fault span words ≡ None → AreLog (word ∷ words)
after_log span word [] log none = joined.Log word log refl
after_log span word (other ∷ words) log none =
    joined.Told word other log (ap (λ ws. word ∷ other ∷ ws) (last_one words _ _ none))

-- what stands after the addresses, where it has no fault
log_reads : (span : Span) (words : List (List ℕ)) → options_fault span words ≡ None → AreLog words
log_reads span [] none = joined.NoLog refl
log_reads span (word ∷ words) none =
    let log = passed (is_known Log word) _ (log_fault span words) none in after_log span word words log.0 log.1

-- ---- the entry

-- what an entry begins with was read off the front of its words
carried_read : (groups : List ListedGroup) (words : List (List ℕ)) (read : After Carried) →
    carried_of groups words ≡ Ok read → Reads (AreCarried groups) words read
carried_read groups words read is =
    let first = left (required words) _ read is in
    let word = first.read.value in
    let rest = first.read.words in
    let Are = AreCarried groups in
    subst (λ ws. Reads Are ws read) (front words first.read first.is)
    (either (bytes_eq word (codes "object-group")) _ _ read
    (λ named got. with_word Are word (one_read (λ part. Are (word ∷ part)) (place_for groups (codes "service"))
    carried.Group rest read (λ name place said. joined.ServiceGroup word name place named said refl refl) got))
    (λ got. let span = went (protocols_of word) _ read got in
    made Are (word ∷ []) rest (carried.Protocol span.value) (joined.Protocol word span.value span.is refl refl)
    span.goes) first.goes)

-- no ports are compared
none_compared : (source destination : Option PortPart) → are_compared source destination ≡ false →
    (source ≡ None) × (destination ≡ None)
none_compared None None none = (refl, refl)
none_compared None (Some part) none = absurd cc
none_compared (Some part) destination none = absurd cc

-- a test that refuses didn't hold, and this is what was read
group_is : (test : Bool) (place : ℕ) (it : Services) →
    (if test then Err kind.Group else Ok (services.Group place)) ≡ Ok it →
    (test ≡ false) × (it ≡ services.Group place)
group_is true place it is = absurd cc
group_is false place it is = let e : it ≡ services.Group place = cc in (refl, e)

-- the services of an entry
services_are : (begins : Carried) (source destination : Option PortPart) (it : Services) →
    services_with begins source destination ≡ Ok it → AreServices begins source destination it
services_are (carried.Protocol span) source destination it is =
    let own = went (service_of (Between span) source destination) _ it is in
    let e : it ≡ services.Own own.value = let same = own.goes in cc in
    joined.Own span refl (e ∙ ap services.Own (service_same (Between span) source destination own.value own.is))
services_are (carried.Group place) source destination it is =
    let group = group_is (are_compared source destination) place it is in
    let none = none_compared source destination group.0 in
    joined.OfGroup place refl none.0 none.1 group.1

-- no fault was told
no_fault : {A : Type 0} (fault : Option LineKind) (read : Result A LineKind) (last : A) → unless fault read ≡ Ok last →
    (fault ≡ None) × (read ≡ Ok last)
no_fault None read last is = (refl, is)
no_fault (Some fault) read last is = absurd cc

-- the words of an entry that is read are such parts
pub read_words_are_parts : joined.ReadWordsAreParts
read_words_are_parts groups verdict words entry is =
    let first = left (carried_of groups words) _ entry is in
    let source = left (side_of groups first.read.words) _ entry first.goes in
    let destination = left (side_of groups source.read.words) _ entry source.goes in
    let near = source.read.value.ports in
    let far = destination.read.value.ports in
    let last = destination.read.words in
    let clean = no_fault (options_fault (protocols_in first.read.value) last) _ entry destination.goes in
    let served = went (services_with first.read.value near far) _ entry clean.1 in
    let begins = carried_read groups words first.read first.is in
    let one = side_reads groups first.read.words source.read source.is in
    let other = side_reads groups source.read.words destination.read destination.is in
    let e : record {
      verdict = verdict;
      services = served.value;
      source = source.read.value.addresses;
      destination = destination.read.value.addresses;
    } ≡ entry = let same = served.goes in cc in
    subst (IsEntry groups verdict words) e (record {
      first = begins.part;
      source = one.addresses;
      source_ports = one.ports;
      destination = other.addresses;
      destination_ports = other.ports;
      log = last;
      begins = first.read.value;
      near = near;
      far = far;
      permits = refl;
      carries = begins.is;
      serves = services_are first.read.value near far served.value served.is;
      sources = one.are_addresses;
      compared_sources = one.are_ports;
      destinations = other.are_addresses;
      compared_destinations = other.are_ports;
      logs = log_reads (protocols_in first.read.value) last clean.0;
      joined = ap (λ ws. begins.part ++ (one.addresses ++ (one.ports ++ ws))) other.joined
          ∙ ap (λ ws. begins.part ++ ws) one.joined
          ∙ begins.joined;
    })
