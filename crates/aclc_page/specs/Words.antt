-- The words of each command, and the files that they name.
use Rattle.std.specs.Prelude.{ℕ, List, [], ◌∷◌, ◌++◌, Bool, not, ◌==◌, codes, decimal, if◌then◌else◌}
use Rattle.acl_outside.specs.Desk.{File}
use Rattle.aclc_page.specs.declared.exports.Asked.{Asked}

-- the rule file, of these bytes
abbrev pub rules_file : List ℕ → File
rules_file bytes = record { name = codes "rules"; bytes = bytes }

-- the second rule file of a comparison
abbrev pub second_file : List ℕ → File
second_file bytes = record { name = codes "second"; bytes = bytes }

-- the capture
abbrev pub capture_file : List ℕ → File
capture_file bytes = record { name = codes "capture"; bytes = bytes }

-- the script of a session
abbrev pub script_file : List ℕ → File
script_file bytes = record { name = codes "script"; bytes = bytes }

-- a word that stands there if it is switched on
abbrev pub switch_words : Bool → List ℕ → List (List ℕ)
switch_words on word = if on then word ∷ [] else []

-- the number of categories
abbrev pub categories_word : Asked → List ℕ
categories_word asked = codes "categories=" ++ decimal asked.categories

-- the budget
abbrev pub max_words_word : Asked → List ℕ
max_words_word asked = codes "max-words=" ++ decimal asked.max_words

-- aclc classify rules capture categories=N max-words=N, and then what is switched on
abbrev pub classify_words : Asked → List (List ℕ)
classify_words asked =
    codes "classify" ∷ codes "rules" ∷ codes "capture" ∷ categories_word asked
    ∷ max_words_word asked
    ∷ switch_words (not (asked.stats == 0)) (codes "stats=on")
    ++ switch_words (not (asked.marks == 0)) (codes "marks=on")

-- aclc audit rules categories=N max-words=N
abbrev pub audit_words : Asked → List (List ℕ)
audit_words asked =
    codes "audit" ∷ codes "rules" ∷ categories_word asked ∷ max_words_word asked ∷ []

-- aclc compare rules second max-words=N
abbrev pub compare_words : Asked → List (List ℕ)
compare_words asked = codes "compare" ∷ codes "rules" ∷ codes "second" ∷ max_words_word asked ∷ []

-- aclc session script
abbrev pub session_words : List (List ℕ)
session_words = codes "session" ∷ codes "script" ∷ []
