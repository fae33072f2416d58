-- Lines that are performed in place of those that they are read as.
use Rattle.std.proofs.Common.{◌≡◌, ℕ, List, [], ◌∷◌, ◌++◌, Ok, refl}
use Rattle.std.specs.declared.option.Option.{Option}
use Rattle.std.specs.declared.result.Result.{Result}
use Rattle.std.specs.Io.KnownBytes.{append_known}
use Rattle.av_base.specs.Connections.{Agrees}
use Rattle.av_base.specs.declared.stop.Stop.{Stop}
use Rattle.aspa_top.specs.declared.working.Working.{Working}
use Rattle.aspa_top.specs.Outside.{Keeps, Outside, all_of}
use Rattle.aspa_top.specs.Performing.{DidLine, Performing}
use Rattle.aspa_top.specs.Script.{ReadAs, ReadsAs}
use Rattle.aspa_top.specs.World.{Tells, World}
use Rattle.aspa_top.proofs.RunLemmas.{Performing-next, Performing-poured}

module _ (world : World) (lines : List (List ℕ)) (begun : Outside) where
  -- the lines that are left are read as these, and others come after them
  pub record PerformingAs (held more : List (List ℕ)) (now : Outside) (working : Working) : Type 0 where
    pub left : List (List ℕ)
    pub read : ReadAs left held
    pub so_far : Performing world lines (left ++ more) begun now working

  -- the first of them is read as this line
  pub record FirstAs (line : List ℕ) (held more : List (List ℕ)) (now : Outside) (working : Working) : Type 0 where
    pub first : List ℕ
    pub left : List (List ℕ)
    pub reads : ReadsAs first line
    pub read : ReadAs left held
    pub so_far : Performing world lines (first ∷ (left ++ more)) begun now working

  first_of : (line : List ℕ) (held more left : List (List ℕ)) (now : Outside) (working : Working) → ReadAs left (line ∷ held) → Performing world lines (left ++ more) begun now working
      → FirstAs line held more now working
  first_of line held more [] now working read so_far = absurd read
  first_of line held more (first ∷ left) now working read so_far = record { first = first; left = left; reads = read.0; read = read.1; so_far = so_far }

  pub first_as : (line : List ℕ) (all held more : List (List ℕ)) (now : Outside) (working : Working) → all ≡ line ∷ held → PerformingAs all more now working
      → FirstAs line held more now working
  first_as line all held more now working is so_far = first_of line held more so_far.left now working (rw is at so_far.read) so_far.so_far

  none_of : (more left : List (List ℕ)) (now : Outside) (working : Working) → ReadAs left [] → Performing world lines (left ++ more) begun now working → Performing world lines more begun now working
  none_of more [] now working read so_far = so_far
  none_of more (first ∷ left) now working read so_far = absurd read

  pub none_as : (all more : List (List ℕ)) (now : Outside) (working : Working) → all ≡ [] → PerformingAs all more now working → Performing world lines more begun now working
  none_as all more now working is so_far = none_of more so_far.left now working (rw is at so_far.read) so_far.so_far

  pub did_as : (line held : List ℕ) (working : Working) (now new : Outside) (result : Result Working Stop) → ReadsAs line held → DidLine working held now new result → DidLine working line now new result
  did_as line held working now new result reads did = record { reading = did.reading; reads = reads did.reading did.reads; did = did.did }

  pub next_as : (line : List ℕ) (all held more : List (List ℕ)) (working next : Working) (now new : Outside) → all ≡ line ∷ held → PerformingAs all more now working → Tells now.files world → Keeps now new
      → DidLine working line now new (Ok next) → Agrees new.links.wire new.standings → PerformingAs held more new next
  next_as line all held more working next now new is so_far tells keeps did agrees =
      let found = first_as line all held more now working is so_far in
      record {
        left = found.left;
        read = found.read;
        so_far = Performing-next world lines begun (found.first ∷ (found.left ++ more)) (found.left ++ more) found.first working next now new found.so_far refl tells keeps (did_as found.first line working now new (Ok next) found.reads did) agrees;
      }

  pub poured_as : (held more : List (List ℕ)) (working : Working) (now : Outside) (written : Option (List ℕ)) (faults : ℕ) (text : List ℕ) → append_known written text ≡ all_of now
      → PerformingAs held more now working → PerformingAs held more (record now { written = written; sink_faults = faults; held = text }) working
  poured_as held more working now written faults text same so_far = record {
    left = so_far.left;
    read = so_far.read;
    so_far = Performing-poured world lines begun (so_far.left ++ more) working now written faults text same so_far.so_far;
  }
