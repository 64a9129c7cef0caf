-- The statuses of refusals.
use Rattle.std.specs.Prelude.{ℕ, ◌==◌, if◌then◌else◌, List, [], codes}
use Rattle.mig_base.specs.declared.refusal.Refusal.{Refusal}
use Rattle.nodes.specs.declared.fault.FrameFault.{FrameFault}

-- the status of a refusal: 64 and its number, but lack of memory has the status of any lack of memory
abbrev pub refusal_status : Refusal → ℕ
refusal_status Refusal.NoCpu = 65
refusal_status Refusal.Busy = 66
refusal_status Refusal.NotAsleep = 67
refusal_status Refusal.NotWoken = 68
refusal_status Refusal.Phase = 69
refusal_status Refusal.Broken = 70
refusal_status Refusal.NotBroken = 71
refusal_status Refusal.StaleEpoch = 72
refusal_status Refusal.NothingThere = 73
refusal_status Refusal.Changing = 74
refusal_status Refusal.InstallFirst = 75
refusal_status Refusal.PageNotSendable = 76
refusal_status Refusal.NotRemaining = 77
refusal_status Refusal.PagesLeft = 78
refusal_status Refusal.CountUsed = 79
refusal_status Refusal.UrgentFirst = 81
refusal_status Refusal.NoMemory = 4

-- the status of a frame that is not taken: that of the refusal of the same name, or one of its own
abbrev pub fault_status : FrameFault → ℕ
fault_status FrameFault.NotAFrame = 11
fault_status FrameFault.OutOfPlace = 82
fault_status FrameFault.StaleEpoch = 72
fault_status FrameFault.BadFrame = 83
fault_status FrameFault.BadOwed = 84
fault_status FrameFault.InstallFirst = 75
fault_status FrameFault.UrgentFirst = 81
fault_status FrameFault.NoMemory = 4

-- the name of the refusal with a status, and nothing for any other status
abbrev pub status_name : ℕ → List ℕ
status_name status =
    if status == 65 then codes "NoCpu"
    else if status == 66 then codes "Busy"
    else if status == 67 then codes "NotAsleep"
    else if status == 68 then codes "NotWoken"
    else if status == 69 then codes "Phase"
    else if status == 70 then codes "Broken"
    else if status == 71 then codes "NotBroken"
    else if status == 72 then codes "StaleEpoch"
    else if status == 73 then codes "NothingThere"
    else if status == 74 then codes "Changing"
    else if status == 75 then codes "InstallFirst"
    else if status == 76 then codes "PageNotSendable"
    else if status == 77 then codes "NotRemaining"
    else if status == 78 then codes "PagesLeft"
    else if status == 79 then codes "CountUsed"
    else if status == 81 then codes "UrgentFirst"
    else if status == 82 then codes "OutOfPlace"
    else if status == 83 then codes "BadFrame"
    else if status == 84 then codes "BadOwed"
    else []
