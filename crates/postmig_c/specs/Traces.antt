-- The trace of a node, as C sees it.
use Rattle.std.specs.Prelude.{◌≡◌, ℕ, Bool, true, false, List, [], ◌∷◌}
use Rattle.std.specs.declared.option.Option.{Option}
use Rattle.std.specs.declared.option.Option.TheVariants.{None, Some}
use Rattle.nodes.specs.Traces.{Trace, begun, line_text}
use Rattle.postmig_c.specs.declared.handle.Content.{Content}
use Rattle.postmig_c.specs.declared.handle.Content.TheVariants.{Source, Destination}
use Rattle.postmig_c.specs.Room.{Fills, IsTooLong}

-- the handle has a node, and this holds of its trace
abbrev pub TellsTrace : Option Content → (Trace → Type 0) → Type 0
TellsTrace (Some (Source traced)) P = P traced.trace
TellsTrace (Some (Destination traced)) P = P traced.trace
TellsTrace content P = ⊥

-- the content with another trace of its node
abbrev pub with_trace : Option Content → Trace → Option Content
with_trace (Some (Source traced)) trace = Some (Source (record traced { trace = trace }))
with_trace (Some (Destination traced)) trace = Some (Destination (record traced { trace = trace }))
with_trace content trace = content

-- a trace that is begun, or ended
abbrev pub turned : Bool → Trace → Trace
turned true trace = begun trace
turned false trace = None

-- the piece begins with the first line that waits, and this is its length; the length is 0 if none waits
abbrev pub ShowsLine : Trace → ℕ → List ℕ → Type 0
ShowsLine None written out = ⊥
ShowsLine (Some []) written out = written ≡ 0
ShowsLine (Some (line ∷ lines)) written out = Fills (line_text line) written out

-- this is the length of the first line that waits, and the piece is shorter
abbrev pub HasLongLine : Trace → ℕ → List ℕ → Type 0
HasLongLine None written out = ⊥
HasLongLine (Some []) written out = ⊥
HasLongLine (Some (line ∷ lines)) written out = IsTooLong (line_text line) written out
