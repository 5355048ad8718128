-- Words that are known in a configuration, as `show running-config` writes it, numbers in decimal,
-- and words that name ports and protocols (Cisco IOS Security Command Reference, "permit (IP)",
-- "Keywords for TCP and UDP ports" and the protocols of its syntax; Cisco IOS Master Command List,
-- commands of the global configuration mode).
use Rattle.std.specs.Prelude.{ℕ, Bool, true, false, ◌&&◌, nat_le, if◌then◌else◌, is_some, codes, List, [], ◌∷◌}
use Rattle.std.specs.Prelude.{◌++◌, length, Option, Some, None}
use Rattle.std.specs.Str.{bytes_eq}
use Rattle.text_scan.specs.Digits.{are_digits, place_value}
use Rattle.text_scan.specs.Parts.{words_of}
use Rattle.cisco_reader.specs.declared.names.Known.{Known}
use Rattle.cisco_reader.specs.declared.names.Known.TheVariants as known

-- a word has a byte
abbrev pub is_filled : List ℕ → Bool
is_filled word = nat_le 1 (length word)

-- the number that a word spells in decimal, at most so great
abbrev pub number_of : ℕ → List ℕ → Option ℕ
number_of greatest word =
    if is_filled word && are_digits 10 word && nat_le (place_value 10 word) greatest
    then Some (place_value 10 word) else None

-- the greatest number of 64 bits
abbrev pub max_count : ℕ
max_count = 18446744073709551615

-- the number that may stand first
abbrev pub first_number : List (List ℕ) → Option ℕ
first_number [] = None
first_number (word ∷ words) = number_of max_count word

-- the words after a number that may stand first
abbrev pub after_number : List (List ℕ) → List (List ℕ)
after_number [] = []
after_number (word ∷ words) = if is_some (number_of max_count word) then words else word ∷ words

-- the greatest port
abbrev pub max_port : ℕ
max_port = 65535

-- the greatest number of a protocol
abbrev pub max_protocol : ℕ
max_protocol = 255

-- the number after a name, in a table of names and numbers
unfoldable pub number_named : List ℕ → List (List ℕ) → Option ℕ
number_named word [] = None
number_named word (name ∷ []) = None
number_named word (name ∷ number ∷ table) =
    if bytes_eq name word then number_of max_port number else number_named word table

-- the first of two that is there
abbrev pub first_of : {A : Type 0} → Option A → Option A → Option A
first_of (Some one) other = Some one
first_of None other = other

-- the numbers of ports by their names, in the order of the alphabet
unfoldable pub port_table : List ℕ
port_table =
    codes "bgp 179 biff 512 bootpc 68 bootps 67 chargen 19 cmd 514 daytime 13 discard 9 "
    ++ codes "dnsix 195 domain 53 drip 3949 echo 7 exec 512 finger 79 ftp 21 ftp-data 20 "
    ++ codes "gopher 70 hostname 101 ident 113 irc 194 isakmp 500 klogin 543 kshell 544 "
    ++ codes "ldp 646 login 513 lpd 515 mobile-ip 434 msrpc 135 nameserver 42 netbios-dgm 138 "
    ++ codes "netbios-ns 137 netbios-ss 139 nntp 119 non500-isakmp 4500 ntp 123 pim-auto-rp 496 "
    ++ codes "pop2 109 pop3 110 rip 520 smtp 25 snmp 161 snmptrap 162 ssh 22 sunrpc 111 "
    ++ codes "syslog 514 tacacs 49 talk 517 telnet 23 tftp 69 time 37 uucp 540 who 513 whois 43 "
    ++ codes "www 80 xdmcp 177"

-- the number of a port, by its name or its number
abbrev pub port_of : List ℕ → Option ℕ
port_of word = first_of (number_named word (words_of port_table)) (number_of max_port word)

-- the numbers of protocols by their names
unfoldable pub protocol_table : List ℕ
protocol_table =
    codes "ahp 51 eigrp 88 esp 50 gre 47 icmp 1 igmp 2 igrp 9 ipinip 4 nos 94 ospf 89 pcp 108 "
    ++ codes "pim 103 sctp 132 tcp 6 udp 17"

-- the number of a protocol, by its name or its number
abbrev pub protocol_of : List ℕ → Option ℕ
protocol_of word =
    first_of (number_named word (words_of protocol_table)) (number_of max_protocol word)

-- ---- words

-- a word is one of some words
unfoldable pub is_among : List ℕ → List (List ℕ) → Bool
is_among word [] = false
is_among word (one ∷ ones) = if bytes_eq one word then true else is_among word ones

-- the words that begin a comparison that a rule can't say: of flags, fragments, marks, times or
-- states
unfoldable pub compared_words : List ℕ
compared_words =
    codes "fragments fragment-type dscp precedence tos time-range option ttl reflect "
    ++ codes "evaluate packet-length vlan routing dest-option mobility hbh destopts authen "
    ++ codes "flow-label ack fin psh rst syn urg established match-all match-any "
    ++ codes "tcp-flags-mask"

-- the words of a log
unfoldable pub log_words : List ℕ
log_words = codes "log log-input"

-- the words that begin entries of numbered lists
unfoldable pub entry_words : List ℕ
entry_words = codes "permit deny remark dynamic"

-- the words that begin parts of a configuration without entries of lists, in the order of the
-- alphabet
unfoldable pub part_words : List ℕ
part_words =
    codes "aaa access-session alias archive arp authentication banner bba-group bfd boot "
    ++ codes "boot-end-marker boot-start-marker bridge buffers Building call call-home card cdp "
    ++ codes "class-map clns clock config-register control-plane controller crypto cts Current "
    ++ codes "device-tracking diagnostic dial-peer dialer dialer-list dot11 dot1x dspfarm enable "
    ++ codes "epm errdisable ethernet event exception facility-alarm flow frame-relay ftp-server "
    ++ codes "hostname hw-module identity interface ip ipc ipv6 ipx isdn kerberos key kron l2 "
    ++ codes "l2tp-class l2vpn lacp ldap license line lldp logging login mab mac "
    ++ codes "mac-address-table macro map-class map-list memory memory-size mls modemcap monitor "
    ++ codes "mpls multilink netconf netconf-yang network-clock network-policy ntp onep "
    ++ codes "parameter-map parser pcep platform policy-map port-channel power privilege process "
    ++ codes "prompt pseudowire-class ptp qos queue-list radius radius-server redundancy "
    ++ codes "restconf rmon route-map router rtr sampler scheduler sdm security service "
    ++ codes "service-template shell sip-ua snmp snmp-server software spanning-tree stackwise "
    ++ codes "standby subscriber switch system tacacs tacacs-server telemetry template "
    ++ codes "tftp-server track transceiver tunnel udld upgrade username Using version "
    ++ codes "virtual-service virtual-template vlan voice voice-port vpdn vpdn-group vrf vtp "
    ++ codes "wireless wlan wsma x25 zone zone-pair"

-- the words of a kind
abbrev pub words_for : Known → List ℕ
words_for known.Compared = compared_words
words_for known.Log = log_words
words_for known.NumberedEntry = entry_words
words_for known.Part = part_words
words_for known.Entry = codes "permit deny remark evaluate"
words_for known.End = codes "exit end"
words_for known.Named = codes "ip ipv6 mac arp ipx appletalk ethernet-services hardware"
words_for known.Address = codes "any host object-group addrgroup net-group"
words_for known.Ip = codes "ip ipv6"
words_for known.GroupKind = codes "network service v6-network v6-service security"
words_for known.Unread = codes "compiled rate-limit dynamic-extended"
words_for known.UnreadKind = codes "role-based fqdn"
words_for known.Setting = codes "log-update logging persistent helper match-local-traffic"
words_for known.BannerKind =
    codes "exec incoming login motd prompt-timeout slip-ppp config-save text"

-- the word is one of a kind
abbrev pub is_known : Known → List ℕ → Bool
is_known kind word = is_among word (words_of (words_for kind))

-- the first word is one of a kind
abbrev pub begins_known : Known → List (List ℕ) → Bool
begins_known kind [] = false
begins_known kind (word ∷ words) = is_known kind word
