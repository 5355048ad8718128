-- The words of ports that are read: each part is read off the front of them.
use Rattle.std.proofs.Common.{◌≡◌, ℕ, Bool, true, false, List, [], ◌∷◌, ◌++◌, Some, None, Option, Ok, map, length}
use Rattle.std.proofs.Common.{refl, sym, ap, ◌∙◌, subst, append_assoc, append-nil, nat_le, nat_lt, ◌==◌}
use Rattle.list_chains.specs.declared.span.Span.{Span}
use Rattle.cisco_reader.specs.declared.services.Operator.{Operator}
use Rattle.cisco_reader.specs.declared.services.Operator.TheVariants as operator
use Rattle.cisco_reader.specs.declared.services.PortPart.{PortPart}
use Rattle.cisco_reader.specs.declared.fault.LineKind.TheVariants.{BadPort, ManyPorts}
use Rattle.cisco_reader.specs.Names.{port_of}
use Rattle.cisco_reader.specs.PortList.{ended, listed, listed_then, max_ports, ports_above, ports_below, ports_between}
use Rattle.cisco_reader.specs.Services.{compared, equals, is_negated, next_port, operator_named, or_none, port_part, port_word, with_operator}
use Rattle.cisco_reader.specs.Read.{After, done}
use Rattle.cisco_reader.specs.Joined as joined
use Rattle.cisco_reader.specs.Joined.{AreCompared, AreNumbers, one}
use Rattle.cisco_reader.proofs.Taken.{Reads, left, made, not_refused, one_read, was_found, word_read}

-- some ports were read off the front of words, after others
record ReadsPorts (ports : List Span) (words : List (List ℕ)) (read : After (List Span)) : Type 0 where
  texts : List (List ℕ)
  numbers : List ℕ
  are : AreNumbers texts numbers
  value : read.value ≡ ports ++ map one numbers
  joined : texts ++ read.words ≡ words

-- no more
ended_reads : (ports : List Span) (words : List (List ℕ)) (read : After (List Span)) → ended ports words ≡ Ok read →
    ReadsPorts ports words read
ended_reads ports words read is =
    let whole = not_refused (length ports == 0) BadPort (done ports words) read is in
    let same : record { value = ports; words = words } ≡ read = cc in
    record {
      texts = [];
      numbers = [];
      are = record { numbers = refl };
      value = sym (ap (λ (r : After (List Span)). r.value) same) ∙ sym (append-nil ports);
      joined = sym (ap (λ (r : After (List Span)). r.words) same);
    }

-- one more, and those after it
more_reads : (ports : List Span) (word : List ℕ) (words : List (List ℕ)) (read : After (List Span)) (it : Option ℕ) →
    port_of word ≡ it →
    ((more : List Span) → listed more words ≡ Ok read → ReadsPorts more words read) →
    listed_then ports (word ∷ words) it (λ more. listed more words) ≡ Ok read →
    ReadsPorts ports (word ∷ words) read
more_reads ports word words read None said rest is = ended_reads ports (word ∷ words) read is
more_reads ports word words read (Some number) said rest is =
    let next = rest (ports ++ one number ∷ [])
    (not_refused (nat_le max_ports (length ports)) ManyPorts (listed (ports ++ one number ∷ []) words) read is) in
    record {
      texts = word ∷ next.texts;
      numbers = number ∷ next.numbers;
      are = record { numbers = λ i. said i ∷ next.are.numbers i };
      value = next.value ∙ append_assoc ports (one number ∷ []) (map one next.numbers);
      joined = ap (λ ws. word ∷ ws) next.joined;
    }

-- ports up to the first word that is none
listed_reads : (ports : List Span) (words : List (List ℕ)) (read : After (List Span)) → listed ports words ≡ Ok read →
    ReadsPorts ports words read
listed_reads ports [] read is = ended_reads ports [] read is
listed_reads ports (word ∷ words) read is =
    more_reads ports word words read (port_of word) refl (λ more said. listed_reads more words read said) is

-- the words after a comparison, and the ports that they stand for
abbrev AreAfter : List ℕ → Bool → List (List ℕ) → List Span → Type 0
AreAfter word negated part ports = AreCompared (word ∷ part) (Some (record { negated = negated; ports = ports }))

-- some ports after eq and neq, or one
equal_reads : (once negated : Bool) (word : List ℕ) (words : List (List ℕ)) (read : After (List Span)) →
    ((texts : List (List ℕ)) (ports : List ℕ) → AreNumbers texts ports → AreAfter word negated texts (map one ports)) →
    equals once words ≡ Ok read → Reads (AreAfter word negated) words read
equal_reads true negated word words read are is =
    one_read (AreAfter word negated) port_word (λ port. one port ∷ []) words read
    (λ text port said. are (text ∷ []) (port ∷ [])
    (record { numbers = λ i. was_found BadPort (port_of text) port said i ∷ [] })) is
equal_reads false negated word words read are is =
    let ports = listed_reads [] words read is in
    record {
      part = ports.texts;
      is = subst (AreAfter word negated ports.texts) (sym ports.value) (are ports.texts ports.numbers ports.are);
      joined = ports.joined;
    }

-- two ports of a range
range_reads : (word : List ℕ) (words : List (List ℕ)) (read : After (List Span)) →
    operator_named word ≡ Some operator.Range → compared false operator.Range words ≡ Ok read →
    Reads (AreAfter word false) words read
range_reads word words read named is =
    let first = left (next_port words) _ read is in
    let second = left (next_port first.read.words) _ read first.goes in
    let low = word_read port_word words first.read first.is in
    let high = word_read port_word first.read.words second.read second.is in
    let is_ = not_refused (nat_lt second.read.value first.read.value) BadPort
    (done (ports_between first.read.value second.read.value) second.read.words) read second.goes in
    let it = made (AreAfter word false) (low.text ∷ high.text ∷ []) second.read.words
    (ports_between first.read.value second.read.value)
    (joined.Range word low.text high.text first.read.value second.read.value named
    (was_found BadPort (port_of low.text) first.read.value low.is)
    (was_found BadPort (port_of high.text) second.read.value high.is) refl refl) is_ in
    subst (λ ws. Reads (AreAfter word false) ws read) (ap (λ ws. low.text ∷ ws) high.joined ∙ low.joined) it

-- a comparison and its ports
compared_reads : (once : Bool) (word : List ℕ) (it : Operator) (words : List (List ℕ)) (read : After (List Span)) →
    operator_named word ≡ Some it → compared once it words ≡ Ok read →
    Reads (AreAfter word (is_negated it)) words read
compared_reads once word operator.Equal words read named is =
    equal_reads once false word words read (λ texts ports are. joined.Equal word texts ports named are refl refl) is
compared_reads once word operator.NotEqual words read named is =
    equal_reads once true word words read (λ texts ports are. joined.NotEqual word texts ports named are refl refl) is
compared_reads once word operator.Greater words read named is =
    one_read (AreAfter word false) port_word ports_above words read
    (λ text port said. joined.Above word text port named (was_found BadPort (port_of text) port said) refl refl) is
compared_reads once word operator.Less words read named is =
    one_read (AreAfter word false) port_word ports_below words read
    (λ text port said. joined.Below word text port named (was_found BadPort (port_of text) port said) refl refl) is
compared_reads once word operator.Range words read named is = range_reads word words read named is

-- and what it is
pub operator_reads : (once : Bool) (word : List ℕ) (it : Operator) (words : List (List ℕ))
    (read : After (Option PortPart)) → operator_named word ≡ Some it → with_operator once it words ≡ Ok read →
    Reads AreCompared (word ∷ words) read
operator_reads once word it words read named is =
    let ports = left (compared once it words) _ read is in
    let first = compared_reads once word it words ports.read named ports.is in
    let e : record {
      value = Some (record { negated = is_negated it; ports = ports.read.value });
      words = ports.read.words;
    } ≡ read = let same = ports.goes in cc in
    record {
      part = word ∷ first.part;
      is = subst (λ (r : After (Option PortPart)). AreCompared (word ∷ first.part) r.value) e first.is;
      joined = ap (λ (r : After (Option PortPart)). word ∷ (first.part ++ r.words)) (sym e)
          ∙ ap (λ ws. word ∷ ws) first.joined;
    }

-- ports that may stand after addresses
pub ports_read : (words : List (List ℕ)) (read : After (Option PortPart)) → port_part words ≡ Ok read →
    Reads AreCompared words read
ports_read [] read is = made AreCompared [] [] None (joined.NoPorts refl refl) is
ports_read (word ∷ words) read is = by (operator_named word) refl is
  where
    by : (it : Option Operator) → operator_named word ≡ it → or_none (word ∷ words) it ≡ Ok read →
        Reads AreCompared (word ∷ words) read
    by None named is = made AreCompared [] (word ∷ words) None (joined.NoPorts refl refl) is
    by (Some it) named is = operator_reads false word it words read named is
