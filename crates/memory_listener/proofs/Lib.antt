pub mod ServedClients
