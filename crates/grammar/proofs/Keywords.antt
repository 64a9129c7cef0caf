-- The list of all keywords.
use Rattle.std.proofs.Common.{List, [], ◌∷◌}
use Rattle.grammar.specs.declared.keyword.Keyword.{Keyword}
use Rattle.grammar.specs.declared.keyword.Keyword.TheVariants as key

abbrev pub all_keywords : List Keyword
all_keywords = key.Cpu ∷ key.Load ∷ key.Store ∷ key.Mmap ∷ key.Munmap ∷ key.NoAccess ∷ key.Read ∷ key.ReadWrite ∷ key.Mremap ∷ key.DontNeed ∷ key.Fixed ∷ key.NoReplace ∷ key.MayMove ∷ key.Retry ∷ key.Start ∷ key.Round ∷ key.Send ∷ key.SendRun ∷ key.SourceRead ∷ key.SourceAct ∷ key.Switch ∷ key.Deliver ∷ key.Back ∷ key.DeliverUrgent ∷ key.DestRead ∷ key.DestAct ∷ key.Install ∷ key.Push ∷ key.PushUrgent ∷ key.Serve ∷ key.End ∷ key.Break ∷ key.Notice ∷ key.Source ∷ key.Dest ∷ key.Resume ∷ key.Progress ∷ key.Gives ∷ key.Value ∷ key.Done ∷ key.At ∷ key.Segv ∷ key.Unmapped ∷ key.Protected ∷ key.Bad ∷ key.Access ∷ key.Refused ∷ key.Eperm ∷ key.Enoent ∷ key.Eagain ∷ key.Enomem ∷ key.Efault ∷ key.Eexist ∷ key.Einval ∷ []
