use Rattle.events.proofs.CrashOrRestart.call.Goals as goal

pub returns-in-CrashServer : goal.returns-in-CrashServer
returns-in-CrashServer c = rw c.in-CrashServer.is

pub returns-in-CrashClient : goal.returns-in-CrashClient
returns-in-CrashClient c = rw c.in-CrashClient.is

pub returns-in-RestartServer : goal.returns-in-RestartServer
returns-in-RestartServer c = rw c.in-RestartServer.is
