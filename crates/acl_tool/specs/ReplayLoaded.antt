-- The tables of an image that was loaded.
use Rattle.table_image.specs.declared.pair.TablePair.{TablePair}
use Rattle.capture_report.specs.Classifier.{Tables}

-- the tables of both families
abbrev pub tables_of : TablePair → Tables
tables_of pair = record { ip4 = pair.ip4; ip6 = pair.ip6 }
