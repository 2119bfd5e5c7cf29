-- What is found among the tree's files is the first with that hash, and nothing exactly if none of them has it (proofs/Among). Assumes nothing.
use Rattle.std.specs.Prelude.{Ok, None}
use mathlib.Core.Path.{◌≡◌, ap, subst}
use mathlib.Core.Logic.{◌↔◌, ◌≢◌}
use mathlib.Core.List.{List}
use Prim.Native.Nat.{ℕ}
use lib.ListN.{length}
use Rattle.words.specs.Record.{IsHash}
use Rattle.words.specs.declared.Position.{Position}
use Rattle.rules.specs.declared.FileNumber.{FileNumber}
use Rattle.layout.specs.Layout.{Hash, FileBlock, Each, file_rows, SoundFile}
use Rattle.finder.specs.Find.{FileAnswer, the_file}
use Rattle.finder.specs.Claims.{FileOfTree}
use Rattle.finder.specs.declared.FilePlace.{FilePlace}
use Rattle.finder.proofs.Among.{Looked, passed, found, look, passes, hits}
use Rattle.finder.proofs.FileTree.{among_files}

module _ (hash : Hash) (h : IsHash hash) (number at : ℕ) (fs : List FileBlock) where
  abbrev Ended : FileAnswer → Type 0
  Ended r = Looked (λ (f : FileBlock). f.hash) (λ f. length (file_rows f)) hash (λ n p. the_file (record { 0 = n }) (record { 0 = p })) (Ok None) number at fs r

  tree_found : {r : FileAnswer} (n : FileNumber) (p : Position) → Ended r → r ≡ the_file n p → FileOfTree hash number at fs n p
  tree_found n p (passed u) e = absurd (cc)
  tree_found n p (found m q f) e =
      let u : ◌≡◌ {A = FilePlace} (record { number = record { 0 = m }; at = record { 0 = q } }) (record { number = n; at = p }) = cc in
      let en : ◌≡◌ {A = FileNumber} (record { 0 = m }) n = ap (λ (x : FilePlace). x.number) u in
      let ep : ◌≡◌ {A = Position} (record { 0 = q }) p = ap (λ (x : FilePlace). x.at) u in
      subst (λ (x : Position). FileOfTree hash number at fs n x) ep (subst (λ (x : FileNumber). FileOfTree hash number at fs x (record { 0 = q })) en f)

  tree_none : {r : FileAnswer} → Ended r → r ≡ Ok None → Each (λ f. f.hash ≢ hash) fs
  tree_none (passed u) e = u
  tree_none (found m q f) e = absurd (cc)

  module _ (sound : Each SoundFile fs) where
    ended : Ended (among_files hash number at fs)
    ended = look _ _ hash _ (Ok None) SoundFile (λ f s. s.hash) h number at fs sound

    pub file_if : (n : FileNumber) (p : Position) → among_files hash number at fs ≡ the_file n p ↔ FileOfTree hash number at fs n p
    file_if n p = (tree_found n p ended, hits _ _ hash _ (Ok None) SoundFile (λ f s. s.hash) h number at fs n.0 p.0 sound)

    pub none_if : among_files hash number at fs ≡ Ok None ↔ Each (λ f. f.hash ≢ hash) fs
    none_if = (tree_none ended, passes _ _ hash _ (Ok None) SoundFile (λ f s. s.hash) h number at fs sound)
