-- Steps of the loops that make links: of the runs of a state, of the states of a place, and of all places.
use Rattle.std.proofs.Common.{◌≡◌, ℕ, ◌+◌, ◌%◌, ◌<◌, ◌≤◌, List, [], ◌∷◌, ◌++◌, length, map, take, drop, get_or, sym, ◌∙◌, ap}
use Rattle.std.proofs.lemmas.List.{drop_more, drop_all, take_more, take_all, map_push}
use Rattle.group_states.specs.declared.run.Run.{Run}
use Rattle.acl_audit.specs.declared.links.Link.{Link}
use Rattle.acl_audit.specs.Links.{linked_with, runs_linked, states_linked, links_of}

-- the links of one run more
pub one_run_more : (links more all : List Link) (before byte k : ℕ) (runs : List Run) (d : Run) → k < length runs
    → runs_linked links before byte (drop k runs) ≡ all
    → more ≡ linked_with links (record { before = before; byte = byte }) (get_or runs k d).to
    → runs_linked more before (((get_or runs k d).last + 1) % 256) (drop (k + 1) runs) ≡ all
one_run_more links more all before byte k runs d below so_far made =
    (λ i. runs_linked (made i) before (((get_or runs k d).last + 1) % 256) (drop (k + 1) runs))
    ∙ ap (runs_linked links before byte) (sym (drop_more runs k d below)) ∙ so_far

-- those of all runs
pub all_runs : (links all : List Link) (before byte k : ℕ) (runs : List Run) → length runs ≤ k
    → runs_linked links before byte (drop k runs) ≡ all → links ≡ all
all_runs links all before byte k runs end so_far =
    ap (runs_linked links before byte) (sym (drop_all k runs end)) ∙ so_far

-- the links of one state more
pub one_state_more : (links more all : List Link) (k : ℕ) (states : List (List Run)) → k < length states
    → states_linked links k (drop k states) ≡ all → more ≡ runs_linked links k 0 (get_or states k [])
    → states_linked more (k + 1) (drop (k + 1) states) ≡ all
one_state_more links more all k states below so_far made =
    ap (λ (ls : List Link). states_linked ls (k + 1) (drop (k + 1) states)) made
    ∙ ap (states_linked links k) (sym (drop_more states k [] below)) ∙ so_far

-- those of all states
pub all_states : (links : List Link) (k : ℕ) (states : List (List Run)) → length states ≤ k
    → states_linked links k (drop k states) ≡ states_linked [] 0 states → links ≡ links_of states
unfolding links_of
all_states links k states end so_far = ap (states_linked links k) (sym (drop_all k states end)) ∙ so_far

-- the links of one place more
pub one_place_more : (made more : List (List Link)) (k : ℕ) (levels : List (List (List Run))) → k < length levels
    → made ≡ map links_of (take k levels) → more ≡ made ++ links_of (get_or levels k []) ∷ []
    → more ≡ map links_of (take (k + 1) levels)
one_place_more made more k levels below so_far pushed =
    pushed ∙ ap (λ ls. ls ++ links_of (get_or levels k []) ∷ []) so_far
    ∙ sym (ap (map links_of) (take_more levels k [] below) ∙ map_push links_of (take k levels) (get_or levels k []))

-- those of all places
pub all_places_linked : (made : List (List Link)) (k : ℕ) (levels : List (List (List Run))) → length levels ≤ k
    → made ≡ map links_of (take k levels) → made ≡ map links_of levels
all_places_linked made k levels end so_far = so_far ∙ ap (map links_of) (take_all k levels end)
