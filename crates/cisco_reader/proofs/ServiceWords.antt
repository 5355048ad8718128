-- The words of a member of a group of services that is read: each part is read off the front of them.
use Rattle.std.proofs.Common.{◌≡◌, ℕ, true, false, List, [], ◌∷◌, ◌++◌, Some, None, Option, Ok}
use Rattle.std.proofs.Common.{refl, sym, ap, ◌∙◌, subst, append-nil, not, ◌&&◌}
use Rattle.std.specs.Prelude.{codes}
use Rattle.std.specs.Str.{bytes_eq}
use Rattle.cisco_reader.specs.declared.services.Operator.{Operator}
use Rattle.cisco_reader.specs.declared.services.PortPart.{PortPart}
use Rattle.cisco_reader.specs.declared.services.Protocols.{Protocols}
use Rattle.cisco_reader.specs.declared.services.Protocols.TheVariants.{Between, TcpUdp}
use Rattle.cisco_reader.specs.declared.services.Service.{Service}
use Rattle.cisco_reader.specs.declared.fault.LineKind.TheVariants.{BadPort, IcmpType, NeedsProtocol}
use Rattle.cisco_reader.specs.Names.{port_of}
use Rattle.cisco_reader.specs.Services.{operator_named, port_word}
use Rattle.cisco_reader.specs.Read.{After, required}
use Rattle.cisco_reader.specs.Services.{are_compared, destination_ports, have_ports, member_protocols, or_alone, protocols_of, service_of, some_ports, source_ports}
use Rattle.cisco_reader.specs.Joined as joined
use Rattle.cisco_reader.specs.Joined.{AreDestinationPorts, AreProtocols, AreSomePorts, AreSourcePorts, IsService, one}
use Rattle.cisco_reader.proofs.PortWords.{operator_reads}
use Rattle.cisco_reader.proofs.Taken.{Reads, either, ended_alone, front, left, made, not_refused, was_found, went}

-- a service is its parts
pub service_same : (protocols : Protocols) (source destination : Option PortPart) (it : Service) →
    service_of protocols source destination ≡ Ok it →
    it ≡ record { protocols = protocols; source = source; destination = destination }
service_same protocols source destination it is =
    let good = not_refused (are_compared source destination && not (have_ports protocols)) NeedsProtocol
    (Ok (record { protocols = protocols; source = source; destination = destination })) it is in
    let same : it ≡ record { protocols = protocols; source = source; destination = destination } = cc in same

-- ports that have to stand there, by the word that begins them
alone_reads : (word : List ℕ) (words : List (List ℕ)) (read : After (Option PortPart)) (it : Option Operator) →
    operator_named word ≡ it → or_alone word words it ≡ Ok read → Reads AreSomePorts (word ∷ words) read
alone_reads word words read None named is =
    let port = went (port_word word) _ read is in
    made AreSomePorts (word ∷ []) words (Some (record { negated = false; ports = one port.value ∷ [] }))
    (joined.OnePort word port.value (was_found BadPort (port_of word) port.value port.is) refl refl) port.goes
alone_reads word words read (Some it) named is =
    let ports = operator_reads true word it words read named is in
    record { part = ports.part; is = joined.Comparison ports.is; joined = ports.joined }

some_read : (words : List (List ℕ)) (read : After (Option PortPart)) → some_ports words ≡ Ok read →
    Reads AreSomePorts words read
some_read words read is =
    let first = left (required words) _ read is in
    subst (λ ws. Reads AreSomePorts ws read) (front words first.read first.is)
    (alone_reads first.read.value first.read.words read (operator_named first.read.value) refl first.goes)

-- the ports of the source
source_read : (words : List (List ℕ)) (read : After (Option PortPart)) → source_ports words ≡ Ok read →
    Reads AreSourcePorts words read
source_read [] read is = made AreSourcePorts [] [] None (joined.NoSource refl refl) is
source_read (word ∷ words) read is =
    either (bytes_eq word (codes "source")) _ _ read
    (λ named got. let ports = some_read words read got in
    record {
      part = word ∷ ports.part;
      is = joined.Source word ports.part named ports.is refl;
      joined = ap (λ ws. word ∷ ws) ports.joined;
    })
    (λ got. made AreSourcePorts [] (word ∷ words) None (joined.NoSource refl refl) got) is

-- the ports of the destination
destination_are : (words : List (List ℕ)) (it : Option PortPart) → destination_ports words ≡ Ok it →
    AreDestinationPorts words it
destination_are [] it is = let none : it ≡ None = cc in joined.NoDestination refl none
destination_are (word ∷ words) it is =
    let ports = left (some_ports (word ∷ words)) _ it is in
    let end_ = ended_alone ports.read.words ports.read.value it ports.goes in
    let reads = some_read (word ∷ words) ports.read ports.is in
    let whole : reads.part ≡ word ∷ words =
    sym (append-nil reads.part) ∙ ap (λ ws. reads.part ++ ws) (sym end_.none) ∙ reads.joined in
    joined.Destination (subst (λ ws. AreSomePorts ws it) whole
    (subst (AreSomePorts reads.part) (sym end_.same) reads.is))

-- the protocols of a member
protocols_are : (word : List ℕ) (it : Protocols) → member_protocols word ≡ Ok it → AreProtocols word it
protocols_are word it is =
    either (bytes_eq word (codes "tcp-udp")) _ _ it
    (λ both got. let same : it ≡ TcpUdp = cc in joined.Both both same)
    (λ got. let span = went (protocols_of word) _ it got in
    let same : it ≡ Between span.value = let e = span.goes in cc in joined.Word span.value span.is same) is

-- the words of a member that is read are such parts
pub read_services_are_parts : joined.ReadServicesAreParts
read_services_are_parts words it is =
    let first = left (required words) _ it is in
    let word = first.read.value in
    let rest = first.read.words in
    let protocols = went (member_protocols word) _ it first.goes in
    let source = left (source_ports rest) _ it (not_refused _ IcmpType _ it protocols.goes) in
    let destination = went (destination_ports source.read.words) _ it source.goes in
    let near = source_read rest source.read source.is in
    let e = service_same protocols.value source.read.value destination.value it destination.goes in
    subst (λ ws. IsService ws it) (front words first.read first.is)
    (subst (IsService (word ∷ rest)) (sym e) (record {
      protocol = word;
      source = near.part;
      destination = source.read.words;
      protocols = protocols_are word protocols.value protocols.is;
      sources = near.is;
      destinations = destination_are source.read.words destination.value destination.is;
      joined = ap (λ ws. word ∷ ws) near.joined;
    }))
