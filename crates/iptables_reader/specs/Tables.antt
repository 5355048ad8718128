-- Names in tables, as the manual pages have them: protocols and states, and the options of matches
-- and targets (iptables-extensions(8)), in the order in which iptables-save prints them. Each
-- option stands there with how many words follow it, where that isn't one.
use Rattle.std.specs.Prelude.{ℕ, ◌+◌, ◌-◌, ◌^◌, ◌==◌, Bool, false, if◌then◌else◌, codes, min}
use Rattle.std.specs.Prelude.{List, [], ◌∷◌, ◌++◌, drop, is_some, Option, Some, None}
use Rattle.std.specs.Str.{bytes_eq}
use Rattle.text_scan.specs.Parts.{slash, cut_at, words_of}
use Rattle.iptables_reader.specs.declared.saved_tables.SavedTable.{SavedTable}
use Rattle.iptables_reader.specs.declared.saved_tables.SavedTable.TheVariants.{Filter, Raw, Mangle, Nat, Security}
use Rattle.iptables_reader.specs.declared.tables.Listed.{Listed}
use Rattle.list_packets.specs.Values.{plain_number}
use Rattle.field_defs.specs.declared.field.Family.{Family}
use Rattle.field_defs.specs.declared.field.Family.TheVariants.{Ip4, Ip6}

-- the numbers of protocols by their names (protocols(5), with those that iptables adds)
unfoldable pub protocol_table : List ℕ
protocol_table =
    codes "tcp=6 udp=17 icmp=1 ipv6-icmp=58 all=0 sctp=132 gre=47 esp=50 ah=51 ip=0 "
    ++ codes "hopopt=0 igmp=2 ggp=3 ipencap=4 st=5 egp=8 igp=9 pup=12 hmp=20 xns-idp=22 rdp=27 "
    ++ codes "iso-tp4=29 dccp=33 xtp=36 ddp=37 idpr-cmtp=38 ipv6=41 ipv6-route=43 ipv6-frag=44 "
    ++ codes "idrp=45 rsvp=46 skip=57 ipv6-nonxt=59 ipv6-opts=60 rspf=73 vmtp=81 eigrp=88 "
    ++ codes "ospf=89 ax.25=93 ipip=94 etherip=97 encap=98 pim=103 ipcomp=108 vrrp=112 "
    ++ codes "l2tp=115 isis=124 fc=133 mobility-header=135 udplite=136 mpls-in-ip=137 "
    ++ codes "manet=138 hip=139 shim6=140 wesp=141 rohc=142 ethernet=143 icmpv6=58 ipv6-mh=135 "
    ++ codes "mh=135"

-- states of a connection (conntrack); those whose addresses are changed have one number
unfoldable pub state_table : List ℕ
state_table =
    codes "INVALID=1 NEW=2 ESTABLISHED=3 RELATED=4 UNTRACKED=5 SNAT=6 DNAT=6"

-- the matches, each before those of its options that no rule file says
unfoldable pub match_table : List ℕ
match_table =
    codes "tcp --tcp-option --tcp-flags/2 --syn/0 udp comment multiport state iprange icmp "
    ++ codes "sctp --chunk-types/2 icmp6 --icmpv6-type conntrack --ctproto --ctorigsrc "
    ++ codes "--ctorigdst --ctreplsrc --ctrepldst --ctorigsrcport --ctorigdstport "
    ++ codes "--ctreplsrcport --ctrepldstport --ctstatus --ctexpire --ctdir addrtype "
    ++ codes "--limit-iface-in/0 --limit-iface-out/0 limit --limit --limit-burst mark --mark "
    ++ codes "connmark --mark mac --mac-source length --length hashlimit --hashlimit-upto "
    ++ codes "--hashlimit-above --hashlimit-burst --hashlimit-mode --hashlimit-name "
    ++ codes "--hashlimit-htable-size --hashlimit-htable-max --hashlimit-htable-gcinterval "
    ++ codes "--hashlimit-htable-expire --hashlimit-srcmask --hashlimit-dstmask "
    ++ codes "--hashlimit-rate-match/0 --hashlimit-rate-interval recent --set/0 --rcheck/0 "
    ++ codes "--update/0 --remove/0 --seconds --reap/0 --hitcount --rttl/0 --name --mask "
    ++ codes "--rsource/0 --rdest/0 set --match-set/2 --return-nomatch/0 --update-counters/0 "
    ++ codes "--update-subcounters/0 ttl --ttl-eq --ttl-gt --ttl-lt hl --hl-eq --hl-gt --hl-lt "
    ++ codes "tos --tos dscp --dscp --dscp-class pkttype --pkt-type owner --socket-exists/0 "
    ++ codes "--uid-owner --gid-owner --suppl-groups/0 helper --helper quota --quota physdev "
    ++ codes "--physdev-is-in/0 --physdev-in --physdev-is-out/0 --physdev-out "
    ++ codes "--physdev-is-bridged/0 connlimit --connlimit-upto --connlimit-above "
    ++ codes "--connlimit-mask --connlimit-saddr/0 --connlimit-daddr/0 string --string "
    ++ codes "--hex-string --algo --from --to --icase/0 statistic --mode --probability --every "
    ++ codes "--packet time --timestart --timestop --contiguous/0 --weekdays --monthdays "
    ++ codes "--datestart --datestop --kerneltz/0 policy --dir --pol --strict/0 --reqid --spi "
    ++ codes "--proto --mode --tunnel-src --tunnel-dst --next/0 tcpmss --mss rpfilter "
    ++ codes "--loose/0 --validmark/0 --accept-local/0 --invert/0 u32 --u32 socket "
    ++ codes "--transparent/0 --nowildcard/0 --restore-skmark/0 connbytes --connbytes "
    ++ codes "--connbytes-mode --connbytes-dir"

-- the targets after which the next rule is asked, each before its options
unfoldable pub target_table : List ℕ
target_table =
    codes "LOG --log-prefix --log-level --log-tcp-sequence/0 --log-tcp-options/0 "
    ++ codes "--log-ip-options/0 --log-uid/0 --log-macdecode/0 NFLOG --nflog-prefix "
    ++ codes "--nflog-group --nflog-range --nflog-size --nflog-threshold ULOG --ulog-prefix "
    ++ codes "--ulog-nlgroup --ulog-cprange --ulog-qthreshold TRACE MARK --set-mark "
    ++ codes "--set-xmark --and-mark --or-mark --xor-mark CONNMARK --set-mark --set-xmark "
    ++ codes "--and-mark --or-mark --xor-mark --save-mark/0 --restore-mark/0 --nfmask --ctmask "
    ++ codes "--mask SECMARK --selctx CONNSECMARK --save/0 --restore/0 CLASSIFY --set-class "
    ++ codes "AUDIT --type CHECKSUM --checksum-fill/0 TCPMSS --set-mss --clamp-mss-to-pmtu/0 "
    ++ codes "NOTRACK CT --notrack/0 --helper --ctevents --expevents --zone --zone-orig "
    ++ codes "--zone-reply --timeout SET --add-set/2 --del-set/2 --map-set/2 --exist/0 "
    ++ codes "--timeout --map-mark/0 --map-prio/0 --map-queue/0 LED --led-trigger-id "
    ++ codes "--led-delay --led-always-blink/0 RATEEST --rateest-name --rateest-interval "
    ++ codes "--rateest-ewmalog TOS --set-tos --and-tos --or-tos --xor-tos DSCP --set-dscp "
    ++ codes "--set-dscp-class TTL --ttl-set --ttl-dec --ttl-inc HL --hl-set --hl-dec --hl-inc "
    ++ codes "DNAT --to-destination --random/0 --persistent/0 SNAT --to-source --random/0 "
    ++ codes "--random-fully/0 --persistent/0 MASQUERADE --to-ports --random/0 "
    ++ codes "--random-fully/0 REDIRECT --to-ports --random/0 NETMAP --to"

-- those of the table `nat` alone, which change addresses and ports
abbrev pub nat_targets : List ℕ
nat_targets = codes "DNAT SNAT MASQUERADE REDIRECT NETMAP"

-- what REJECT of a family may answer, besides a reset
unfoldable pub answer_table : Family → List ℕ
answer_table Ip4 =
    codes "icmp-port-unreachable icmp-net-unreachable icmp-host-unreachable "
    ++ codes "icmp-proto-unreachable icmp-net-prohibited icmp-host-prohibited "
    ++ codes "icmp-admin-prohibited"
answer_table Ip6 =
    codes "icmp6-port-unreachable icmp6-no-route icmp6-adm-prohibited icmp6-addr-unreachable "
    ++ codes "icmp6-policy-fail icmp6-reject-route"

-- ---- owners with options

-- a word is an option; 45 is `-`
abbrev pub is_option : List ℕ → Bool
is_option [] = false
is_option (c ∷ cs) = c == 45

-- the place after a name among words, the first of which has a place
abbrev pub owner_from : List ℕ → ℕ → List (List ℕ) → Option ℕ
owner_from name place [] = None
owner_from name place (word ∷ words) =
    if bytes_eq word name then Some (place + 1) else owner_from name (place + 1) words

-- the place after the name of a match or target
abbrev pub owner_in : List ℕ → List ℕ → Option ℕ
owner_in name table = if is_option name then None else owner_from name 0 (words_of table)

-- how many words follow an option, which stands in a table with a number after `/` or without
abbrev pub count_of_cut : List ℕ → List ℕ → Option (List ℕ × List ℕ) → Option ℕ
count_of_cut name word None = if bytes_eq word name then Some 1 else None
count_of_cut name word (Some cut) = if bytes_eq cut.0 name then plain_number 255 cut.1 else None

-- how many words follow the option that a word of a table is, if that is the name
abbrev pub count_said : List ℕ → List ℕ → Option ℕ
count_said name word = count_of_cut name word (cut_at slash word)

-- the place after one more word, as far as it can be counted
abbrev pub place_after : ℕ → ℕ
place_after place = min (place + 1) (2 ^ 64 - 1)

-- an option that is found before a place, or what is found after it
abbrev pub listed_or : ℕ → Option ℕ → Option Listed → Option Listed
listed_or after (Some count) others = Some (record { count = count; after = after })
listed_or after None others = others

-- the option among words, the first of which has a place, up to the next name
abbrev pub option_from : List ℕ → ℕ → List (List ℕ) → Option Listed
option_from name place [] = None
option_from name place (word ∷ words) =
    if is_option word
    then listed_or (place_after place) (count_said name word)
    (option_from name (place_after place) words)
    else None

-- a target stands in no rule of a table
abbrev pub is_elsewhere : SavedTable → List ℕ → Bool
is_elsewhere Nat word = false
is_elsewhere Filter word = is_some (owner_in word nat_targets)
is_elsewhere Raw word = is_some (owner_in word nat_targets)
is_elsewhere Mangle word = is_some (owner_in word nat_targets)
is_elsewhere Security word = is_some (owner_in word nat_targets)

-- the place after the name of a target that may stand in a rule of a table
abbrev pub target_in : SavedTable → List ℕ → Option ℕ
target_in table word =
    if is_elsewhere table word then None else owner_in word target_table

-- an option of a match or target, from a place on after its name
abbrev pub option_in : List ℕ → ℕ → List ℕ → Option Listed
option_in name place table = option_from name place (drop place (words_of table))
